-- One law for each way through the parser of heads and of lines for locals.
use Prim.Native.Nat.{ℕ, zero, suc, ◌+◌, ◌-◌, ◌^◌, ◌≤◌, ◌<◌}
use native.Mathlib.Omega.{arith}
use native.Mathlib.Nat.{add-zero}
use mathlib.Core.Path.{◌≡◌, refl, sym, subst, ◌∙◌}
use mathlib.Core.List.{List, [], ◌∷◌, ◌++◌}
use mathlib.Core.Bool.{Bool, true, false}
use mathlib.Core.Bool as B
use lib.ListN.{length, get_or}
use lib.Dec.{eqb}
use borrow.Author.Tests.{ne_eqb}
use Rattle.value.specs.Lists.{upto}
use Rattle.value.proofs.Laws.Lists.{Each}
use Rattle.value.proofs.Laws.Tests.{never}
use Rattle.format.specs.Syntax.{Proc, Plain, sequential}
use Rattle.format.specs.Encode.{each}
use Rattle.format.specs.Rules.{limits}
use Rattle.format.proofs.Laws.Stands.{Stands, first, front, back}
use Rattle.ctext.specs.Pieces.{say, decimal}
use Rattle.ctext.specs.Text.{numbered, argument, unset, declaration}
use Rattle.ctext.proofs.Laws.Numbers.{Digit}
use Rattle.ctext.proofs.Laws.ExprText.{behind, shift}
use Rattle.ctext.proofs.Laws.ArgText.{NumberText, take_number}
use Rattle.ctext.proofs.Laws.FrameText.{ParamsText, MoreParams, params_more, params_none, params_some, more_params_none, more_params_some, more_next}
use Rattle.ctext.proofs.Laws.FrameText.{DeclarationsText, declaration_parts, head_parts}
use Rattle.ctext.proofs.Laws.DefinitionText.{UnsetsText, unsetting, unsets_end, unsets_next, unset_after, DefinitionIn}
use Rattle.retable.specs.Laws.Pieces.{Skips, ReadsNumber}
use Rattle.retable.specs.Laws.Frames.{SkipsTwo, Counts, CountsMore, CountsParams, CountsHead}
use Rattle.retable.specs.Laws.Frames.{Few, SkipsDeclarations, SkipsArgs, CountsUnsets, Counting, CountsLocals}
use Rattle.retable.specs.declared.pieces.Numbered.{Numbered}
use Rattle.retable.specs.declared.frames.Counted.{Counted}
use Rattle.retable.proofs.Arguing.{hop, number_from, number_is}

-- the first byte
at_once : (x : List ℕ) (i : ℕ) {k : ℕ} → k ≡ get_or x (i + 0) 0 → k ≡ get_or x i 0
at_once x i e = rw add-zero at e

-- a byte that is no digit
low : {c : ℕ} → c < 48 → Digit c → ⊥
low l d = omega (arith, l, d.least)

-- ---- parameters

-- behind j, behind b parameters, as behind i, behind a
pub record ParamsFrom (x : List ℕ) (i a j b : ℕ) : Type 0 where
  pub back : {r : Counted ℕ} → CountsMore x j b r → CountsMore x i a r

-- at the start
pub params_start : {x : List ℕ} {i a : ℕ} → ParamsFrom x i a i a
params_start = record { back = λ M. M }

module _ {x : List ℕ} {i a j b : ℕ} (F : ParamsFrom x i a j b) where
  -- one more
  pub params_next : {c s : ℕ} {n : Numbered} → c ≡ get_or x (j + 0) 0 → c ≡ 44 → Skips x j 11 s → ReadsNumber x s n → ParamsFrom x i a n.next (b + 1)
  params_next {c} {s} {n} e f S N = record { back = λ {r} M. F.back (record { gives = go r M }) }
    where
      go : (r : Counted ℕ) → CountsMore x n.next (b + 1) r → (m k : ℕ) → MoreParams x j b m k → b + m < 2 ^ 8 → Counts (b + m) k r
      go r M m k h l =
          let some : (l : ℕ) × (m ≡ suc l) = more_params_some h (sym (at_once x j e) ∙ f) in
          let parts = more_next (subst (λ m. MoreParams x j b m k) some.1 h) in
          let name = number_is N parts.0 (hop S refl (number_from parts.0)) in
          let next : suc b ≡ b + 1 = omega arith in
          let after : MoreParams x n.next (b + 1) some.0 k =
          subst (λ i. MoreParams x i (b + 1) some.0 k) (sym name.1) (subst (λ c. MoreParams x (j + 11 + length (decimal b)) c some.0 k) next parts.1)
          in
          let rest = M.gives some.0 k after (omega (arith, some.1)) in
          record { count = omega (arith, rest.count, some.1); ends = rest.ends }

  -- no other
  pub params_end : {c : ℕ} → c ≡ get_or x (j + 0) 0 → (c ≡ 44 → ⊥) → CountsMore x i a (record { count = b; next = j })
  params_end {c} e f = F.back (record {
    gives = λ m k h l.
        let none = more_params_none h (λ g. f (at_once x j e ∙ g)) in
        record { count = omega (arith, none.0); ends = sym none.1 };
  })

  -- as many as there may be
  params_many : 255 ≤ b → CountsMore x i a (record { count = b; next = j })
  params_many f = F.back (record { gives = go })
    where
      go : (m k : ℕ) → MoreParams x j b m k → b + m < 2 ^ 8 → Counts (b + m) k (record { count = b; next = j })
      go zero k h l = record { count = omega arith; ends = omega (arith, h.stands.ends) }
      go (suc m) k h l = absurd (omega arith)

-- which is 255
pub params_full : {x : List ℕ} {i a j : ℕ} (b : ℕ) → ParamsFrom x i a j b → 255 ≤ b → b ≤ 255 → CountsMore x i a (record { count = 255; next = j })
params_full {x} {i} {a} {j} b F f g = subst (λ n. CountsMore x i a (record { count = n; next = j })) (omega arith) (params_many F f)

-- (void)
pub params_void : {x : List ℕ} {i c t : ℕ} → c ≡ get_or x (i + 0) 0 → c ≡ 118 → Skips x i 4 t → CountsParams x i (record { count = 0; next = t })
unfolding say
params_void {x} {i} {c} {t} e f T = record { gives = go }
  where
    go : (n j : ℕ) → ParamsText x i n j → n < 2 ^ 8 → Counts n j (record { count = 0; next = t })
    go zero j h l = record { count = refl; ends = T.to (omega (arith, h.stands.ends, h.stands.fits)) ∙ sym h.stands.ends }
    go (suc n) j h l = absurd (omega (arith, params_none h (sym (at_once x i e) ∙ f)))

-- (z_value
pub params_all : {x : List ℕ} {i c t : ℕ} {r : Counted ℕ} → c ≡ get_or x (i + 0) 0 → (c ≡ 118 → ⊥) → Skips x i 10 t → CountsMore x t 1 r → CountsParams x i r
params_all {x} {i} {c} {t} {r} e f T M = record { gives = go }
  where
    go : (n j : ℕ) → ParamsText x i n j → n < 2 ^ 8 → Counts n j r
    go n j h l =
        let some : (m : ℕ) × (n ≡ suc m) = params_some h (λ g. f (at_once x i e ∙ g)) in
        let more = params_more (subst (λ n. ParamsText x i n j) some.1 h) in
        let place : t ≡ i + 10 = T.to (omega (arith, more.stands.ends, more.stands.fits)) in
        let counted = M.gives some.0 j (subst (λ i. MoreParams x i 1 some.0 j) (sym place) more) (omega (arith, some.1)) in
        record { count = omega (arith, counted.count, some.1); ends = counted.ends }

-- ---- heads

-- where parameters stand is in the text
params_from : {x : List ℕ} {i n j : ℕ} → ParamsText x i n j → i ≤ length x
params_from h = omega (arith, h.stands.ends, h.stands.fits)

-- a head
pub head_way : {x : List ℕ} {i s t : ℕ} {n : Numbered} {r : Counted ℕ} → Skips x i 6 s → ReadsNumber x s n → Skips x n.next 1 t → CountsParams x t r
    → CountsHead x i r
head_way {x} S N T P = record {
  gives = λ k n m j A B l.
      let name = number_is N A (hop S refl (number_from A)) in
      let place = hop T name.1 (params_from B) in
      P.gives n j (subst (λ i. ParamsText x i n j) (sym place) B) l;
}

-- behind j, behind b declarations, as behind i, behind a
pub record DeclaredFrom (x : List ℕ) (i a j b : ℕ) : Type 0 where
  pub back : {r : Counted ℕ} → SkipsDeclarations x j b r → SkipsDeclarations x i a r

-- at the start
pub declared_start : {x : List ℕ} {i a : ℕ} → DeclaredFrom x i a i a
declared_start = record { back = λ D. D }

module _ {x : List ℕ} {i a j b : ℕ} (F : DeclaredFrom x i a j b) where
  -- one more
  pub declared_next : {c t : ℕ} {h : Counted ℕ} → c ≡ get_or x (j + 0) 0 → c ≡ 118 → CountsHead x j h → Skips x h.next 3 t → DeclaredFrom x i a t (b + 1)
  declared_next {c} {t} {h} e f H T = record { back = λ {r} D. F.back (record { gives = go r D }) }
    where
      go : (r : Counted ℕ) → SkipsDeclarations x t (b + 1) r → (ps : List (Proc Plain)) (k : ℕ) → DeclarationsText x j b ps k → Each Few ps
          → b + length ps ≤ (limits sequential).procs → Counts (b + length ps) k r
      go r D [] k d few l =
          let here : j ≡ k = omega (arith, d.stands.ends) in
          absurd (omega (arith, subst (λ k. get_or x k 0 ≡ 10) (sym here) d.follows, at_once x j e))
      go r D (p ∷ ps) k d few l =
          let parts = declaration_parts d in
          let rest : List ℕ = numbered declaration (suc b) ps in
          let name = (head_parts b p.params (say ";\n") (front (declaration b p) rest d.stands) (omega arith) d.fits.0).1 in
          let head = H.gives b p.params _ parts.0 name parts.1 (omega (arith, few.0.0, few.0.1)) in
          let place : t ≡ parts.0 + 3 = hop T head.ends (omega (arith, parts.2.stands.ends, parts.2.stands.fits)) in
          let next : suc b ≡ b + 1 = omega arith in
          let after : DeclarationsText x t (b + 1) ps k =
          subst (λ i. DeclarationsText x i (b + 1) ps k) (sym place) (subst (λ b. DeclarationsText x (parts.0 + 3) b ps k) next parts.2)
          in
          let others = D.gives ps k after few.1 (omega arith) in
          record { count = omega (arith, others.count); ends = others.ends }

  -- no other
  pub declared_end : {c : ℕ} → c ≡ get_or x (j + 0) 0 → (c ≡ 118 → ⊥) → SkipsDeclarations x i a (record { count = b; next = j })
  unfolding say
  declared_end {c} e f = F.back (record { gives = go })
    where
      go : (ps : List (Proc Plain)) (k : ℕ) → DeclarationsText x j b ps k → Each Few ps → b + length ps ≤ (limits sequential).procs
          → Counts (b + length ps) k (record { count = b; next = j })
      go [] k d few l = record { count = omega arith; ends = omega (arith, d.stands.ends) }
      go (p ∷ ps) k d few l = absurd (f (at_once x j e ∙ first d.stands))

  -- as many as there may be
  declared_many : (limits sequential).procs ≤ b → SkipsDeclarations x i a (record { count = b; next = j })
  declared_many f = F.back (record { gives = go })
    where
      go : (ps : List (Proc Plain)) (k : ℕ) → DeclarationsText x j b ps k → Each Few ps → b + length ps ≤ (limits sequential).procs
          → Counts (b + length ps) k (record { count = b; next = j })
      go [] k d few l = record { count = omega arith; ends = omega (arith, d.stands.ends) }
      go (p ∷ ps) k d few l = absurd (omega arith)

-- which is 1,024
pub declared_full : {x : List ℕ} {i a j : ℕ} (b : ℕ) → DeclaredFrom x i a j b → 1024 ≤ b → b ≤ 1024 → SkipsDeclarations x i a (record { count = 1024; next = j })
declared_full {x} {i} {a} {j} b F f g = subst (λ n. SkipsDeclarations x i a (record { count = n; next = j })) (omega arith) (declared_many F f)

-- ---- lines for locals

-- behind j, with m parameters left, as behind i with n
pub record ArgsFrom (x : List ℕ) (i n j m : ℕ) : Type 0 where
  pub back : {r : ℕ} → SkipsArgs x j m r → SkipsArgs x i n r

-- at the start
pub lines_start : {x : List ℕ} {i n : ℕ} → ArgsFrom x i n i (n - 0)
lines_start {n = n} = let all : n - 0 ≡ n = omega arith in rw all (record { back = λ S. S })

-- one more
lines_by : {x : List ℕ} {i n j m t : ℕ} → ArgsFrom x i n j m → 0 < m → SkipsTwo x j 3 10 3 t → ArgsFrom x i n t (m - 1)
unfolding say
lines_by {x} {i} {n} {j} {m = zero} {t} F some T = absurd (omega arith)
lines_by {x} {i} {n} {j} {m = suc m} {t} F some T = record { back = λ {r} S. F.back (record { to = go r S }) }
  where
    go : (r : ℕ) → SkipsArgs x t (suc m - 1) r → (a e : ℕ) → Stands x j (each argument (upto a (suc m))) e → a + suc m < 2 ^ 8 → r ≡ e
    go r S a e s l =
        let less : suc m - 1 ≡ m = omega arith in
        let rest : List ℕ = each argument (upto (suc a) m) in
        let here = front (argument a) rest s in
        let one = take_number a (behind (say "  x") (decimal a ++ (say " = z_arg(" ++ (say "x" ++ (decimal a ++ say ");\n")))) 3 refl here) (omega arith)
        (low (omega arith))
        in
        let two = take_number a (behind (say " = z_arg(x") (decimal a ++ say ");\n") 10 refl one.1) (omega arith) (low (omega arith)) in
        let place = T.to a a _ _ one.0 two.0 (omega (arith, two.1.ends, here.fits)) in
        let after : Stands x t (each argument (upto (suc a) (suc m - 1))) e = rw less (shift (back (argument a) rest s) (two.1.ends ∙ sym place)) in
        S.to (suc a) e after (omega arith)

-- behind c of them
pub lines_next : {x : List ℕ} {i n j t : ℕ} (c : ℕ) → ArgsFrom x i n j (n - c) → c < n → SkipsTwo x j 3 10 3 t → ArgsFrom x i n t (n - (c + 1))
lines_next {n = n} c F some T = let less : n - c - 1 ≡ n - (c + 1) = omega arith in rw less at (lines_by F (omega arith) T)

-- none is left
lines_over : {x : List ℕ} {i n j m : ℕ} → ArgsFrom x i n j m → m ≤ 0 → SkipsArgs x i n j
lines_over {m = zero} F none = F.back (record { to = λ a e s l. omega (arith, s.ends) })
lines_over {m = suc m} F none = absurd (omega arith)

-- behind all of them
pub lines_end : {x : List ℕ} {i n j : ℕ} (c : ℕ) → ArgsFrom x i n j (n - c) → n ≤ c → SkipsArgs x i n j
lines_end c F none = lines_over F (omega arith)

-- is there another local
pub unset_may : (x : List ℕ) (i : ℕ) {k l : ℕ} → k ≡ get_or x (i + 2) 0 → k ≡ 122 → l ≡ get_or x (i + 4) 0 → B.not (eqb l 118) ≡ B.not (unsetting x i)
unfolding unsetting
unset_may x i e f g = rw (← e, f, ← g)

-- there is none
pub unset_not : (x : List ℕ) (i : ℕ) {k : ℕ} → k ≡ get_or x (i + 2) 0 → (k ≡ 122 → ⊥) → true ≡ B.not (unsetting x i)
unfolding unsetting
unset_not x i e f = rw (← e, ne_eqb _ _ f)

-- by the answer
unset_none : (u : Bool) → true ≡ B.not u → u ≡ false
unset_none false e = refl
unset_none true e = absurd (never (sym e))

unset_some : (u : Bool) → false ≡ B.not u → u ≡ true
unset_some false e = absurd (never e)
unset_some true e = refl

-- behind j, behind b locals, as behind i, behind a
pub record UnsetsFrom (x : List ℕ) (i a j b : ℕ) : Type 0 where
  pub back : {r : Counted ℕ} → CountsUnsets x j b r → CountsUnsets x i a r

-- at the start
pub unsets_start : {x : List ℕ} {i a : ℕ} → UnsetsFrom x i a i a
unsets_start = record { back = λ U. U }

-- the lines after one
unset_line : {x : List ℕ} {j b t m k : ℕ} → SkipsTwo x j 11 21 2 t → UnsetsText x j b (suc m) k → b < 2 ^ 8 → UnsetsText x t (b + 1) m k
unfolding say
unset_line {x} {j} {b} {t} {m} {k} T h l =
    let here = front (unset b) (each unset (upto (suc b) m)) h.stands in
    let one = take_number b (behind (say "  z_value x") (decimal b ++ (say " = z_unset(); (void)" ++ (say "x" ++ (decimal b ++ say ";\n")))) 11 refl here)
    (omega arith) (low (omega arith))
    in
    let two = take_number b (behind (say " = z_unset(); (void)x") (decimal b ++ say ";\n") 21 refl one.1) (omega arith) (high (omega arith)) in
    let place = T.to b b _ _ one.0 two.0 (omega (arith, two.1.ends, here.fits)) in
    let next : suc b ≡ b + 1 = omega arith in
    subst (λ i. UnsetsText x i (b + 1) m k) (two.1.ends ∙ sym place) (subst (λ c. UnsetsText x (j + length (unset b)) c m k) next (unset_after h))
  where
    high : {c : ℕ} → 58 ≤ c → Digit c → ⊥
    high l d = omega (arith, l, d.most)

module _ {x : List ℕ} {i a j b : ℕ} (F : UnsetsFrom x i a j b) where
  -- one more
  pub unsets_more : {u : Bool} {t : ℕ} → u ≡ B.not (unsetting x j) → u ≡ false → SkipsTwo x j 11 21 2 t → UnsetsFrom x i a t (b + 1)
  unsets_more {u} {t} e f T = record { back = λ {r} U. F.back (record { gives = go r U }) }
    where
      go : (r : Counted ℕ) → CountsUnsets x t (b + 1) r → (m k : ℕ) → UnsetsText x j b m k → b + m < 2 ^ 8 → Counts (b + m) k r
      go r U m k h l =
          let some : (n : ℕ) × (m ≡ suc n) = unsets_next h (unset_some (unsetting x j) (sym f ∙ e)) in
          let after = unset_line T (subst (λ m. UnsetsText x j b m k) some.1 h) (omega arith) in
          let rest = U.gives some.0 k after (omega (arith, some.1)) in
          record { count = omega (arith, rest.count, some.1); ends = rest.ends }

  -- no other
  pub unsets_done : {u : Bool} → u ≡ B.not (unsetting x j) → u ≡ true → CountsUnsets x i a (record { count = b; next = j })
  unsets_done {u} e f = F.back (record {
    gives = λ m k h l. let none = unsets_end h (unset_none (unsetting x j) (sym f ∙ e)) in record { count = omega (arith, none.0); ends = sym none.1 };
  })

  -- as many as there may be
  unsets_many : 255 ≤ b → CountsUnsets x i a (record { count = b; next = j })
  unsets_many f = F.back (record { gives = go })
    where
      go : (m k : ℕ) → UnsetsText x j b m k → b + m < 2 ^ 8 → Counts (b + m) k (record { count = b; next = j })
      go zero k h l = record { count = omega arith; ends = omega (arith, h.stands.ends) }
      go (suc m) k h l = absurd (omega arith)

-- which is 255
pub unsets_full : {x : List ℕ} {i a j : ℕ} (b : ℕ) → UnsetsFrom x i a j b → 255 ≤ b → b ≤ 255 → CountsUnsets x i a (record { count = 255; next = j })
unsets_full {x} {i} {a} {j} b F f g = subst (λ n. CountsUnsets x i a (record { count = n; next = j })) (omega arith) (unsets_many F f)

-- a line's place, from another way to write it
number_here : {x : List ℕ} {i k n j : ℕ} → NumberText x i n j → i ≡ k → NumberText x k n j
number_here {x} {n = n} {j} h q = subst (λ i. NumberText x i n j) q h

-- what stands before a body
pub locals_way : {x : List ℕ} {i s t u v : ℕ} {h a : Counted ℕ} {n : Numbered} → Skips x i 1 s → CountsHead x s h → Skips x h.next 20 t → ReadsNumber x t n
    → Skips x n.next 4 u → SkipsArgs x u h.count v → CountsUnsets x v h.count a
    → CountsLocals x i (record { params = h.count; locals = a.count; next = a.next })
locals_way {x} {i} {s} {t} {u} {v} {h} {a} {n} S H T N U A C = record { gives = gives }
  where
    gives : (k : ℕ) (p : Proc Plain) (ps : List (Proc Plain)) (j : ℕ) (w : DefinitionIn x i k p ps j) → Few p
        → Counting p w.u (record { params = h.count; locals = a.count; next = a.next })
    gives k p ps j w few =
        let K : ℕ = length (decimal k) in
        let start : s ≡ i + 1 = hop S refl (omega (arith, number_from w.index)) in
        let name : NumberText x (s + 6) k (i + 7 + K) = number_here w.index (omega arith) in
        let head = H.gives k p.params (i + 7 + K) w.l name w.params (omega (arith, few.0, few.1)) in
        let again = number_is N w.again (hop T head.ends (number_from w.again)) in
        let lines : u ≡ w.l + 20 + K + 4 = hop U again.1 (omega (arith, w.args.ends, w.args.fits)) in
        let args : v ≡ w.l + 20 + K + 4 + length (each argument (upto 0 p.params)) =
        A.to 0 _ (rw (head.count, lines) w.args) (omega (arith, head.count, few.0, few.1))
        in
        let unsets = C.gives (p.locals - p.params) w.u (rw (head.count, args) w.unsets) (omega (arith, head.count, few.0, few.1)) in
        record { params = head.count; locals = omega (arith, unsets.count, head.count, few.0); ends = unsets.ends }

-- one law for each way
pub ruleset params_ways = (params_start, params_next, params_end, params_full, params_void, params_all, head_way)

pub ruleset declared_ways = (declared_start, declared_next, declared_end, declared_full)

pub ruleset lines_ways = (lines_start, lines_next, lines_end)

pub ruleset unsets_ways = (unset_may, unset_not, unsets_start, unsets_more, unsets_done, unsets_full)

pub ruleset locals_ways = (locals_way)
