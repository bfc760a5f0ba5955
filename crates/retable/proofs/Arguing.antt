-- One law for each way through the parser of lines that hold no block.
use Prim.Native.Nat.{ℕ, suc, ◌+◌, ◌%◌, ◌^◌, ◌≤◌, ◌<◌}
use native.Mathlib.Omega.{arith}
use native.Mathlib.Nat.{add-zero}
use mathlib.Core.Path.{◌≡◌, refl, sym, ap, subst, ◌∙◌}
use mathlib.Core.List.{List, [], ◌∷◌}
use lib.ListN.{length, get_or, set}
use lib.Seq.{sets, set-set, set_comm}
use Rattle.value.specs.Values.{bytes}
use Rattle.format.specs.Syntax.{Expr, Instr, Plain}
use Rattle.format.specs.Encode.{expr, each, instr}
use Rattle.format.specs.Decode.{max_depth}
use Rattle.ctext.proofs.Laws.ExprText.{ExprText, moved}
use Rattle.ctext.proofs.Laws.ArgText.{NumberText, ArgsText, MoreText, SomeIn, args_none, args_some, more_none, more_some}
use Rattle.ctext.proofs.Laws.LineText.{InstrText, TargetIn, AssignIn, ReadIn, WriteIn, CallIn, SelectIn}
use Rattle.ctext.proofs.Laws.BlockText.{assign_in, read_in}
use Rattle.writer.specs.Laws.Put.{Put}
use Rattle.writer.proofs.Puts.{put_then, put_cons, put_same, put_none}
use Rattle.retable.specs.Laws.Pieces.{Skips, ReadsNumber}
use Rattle.retable.specs.Laws.Exprs.{Parses, ParsesByte, ParsesTwo, ParsesExpr}
use Rattle.retable.specs.Laws.Lines.{ParsesPointed, ParsesTarget, ParsesWrite, ParsesSelect, ParsesCall, Argued, ParsesMore, ParsesArgs, ParsesCounted}
use Rattle.retable.specs.declared.pieces.Numbered.{Numbered}
use Rattle.retable.specs.declared.exprs.Parsed.{Parsed}
use Rattle.retable.specs.declared.exprs.Listed.{Listed}

-- ---- from what stands at a place

-- n bytes behind a place
pub hop : {x : List ℕ} {a k n s : ℕ} → Skips x a n s → a ≡ k → k + n ≤ length x → s ≡ k + n
hop {a = a} {k} {n} S e l = S.to (omega arith) ∙ ap (λ k. k + n) e

-- an expression
pub expr_at : {x : List ℕ} {s i d n : ℕ} {e : Expr} {j : ℕ} {o o' : List ℕ} {p : ℕ} {r : Parsed} → ParsesExpr x s d o p o' r → ExprText x i d n e j → s ≡ i
    → Parses (expr e) j o p o' r
expr_at {n = n} {e} {j} E h q = E.gives n e j (moved h (sym q))

-- where it stands is in the text
pub expr_from : {x : List ℕ} {i d n : ℕ} {e : Expr} {j : ℕ} → ExprText x i d n e j → i ≤ length x
expr_from h = omega (arith, h.stands.ends, h.stands.fits)

-- a number that stands elsewhere
number_moved : {x : List ℕ} {i k n j : ℕ} → NumberText x i n j → i ≡ k → NumberText x k n j
number_moved {x} {n = n} {j} h q = subst (λ i. NumberText x i n j) q h

-- where a number stands is in the text
pub number_from : {x : List ℕ} {i n j : ℕ} → NumberText x i n j → i ≤ length x
number_from h = omega (arith, h.stands.ends, h.stands.fits)

-- a number is read
pub number_is : {x : List ℕ} {s i n j : ℕ} {r : Numbered} → ReadsNumber x s r → NumberText x i n j → s ≡ i → (r.number ≡ n) × (r.next ≡ j)
number_is {n = n} {j} N h q =
    let there = number_moved h (sym q) in
    (N.is n j there.stands there.stops (omega (arith, h.fits)), N.ends n j there.stands there.stops (omega (arith, h.fits)))

-- a number of one byte
pub byte_at : {x : List ℕ} {s i n j : ℕ} {o o' : List ℕ} {p : ℕ} {r : Parsed} → ParsesByte x s o p o' r → NumberText x i n j → n < 2 ^ 8 → s ≡ i
    → Parses (n ∷ []) j o p o' r
byte_at {n = n} {j} B h l q = let there = number_moved h (sym q) in B.gives n j there.stands there.stops l

-- of two
pub two_at_lem : {x : List ℕ} {s i n j : ℕ} {o o' : List ℕ} {p : ℕ} {r : Parsed} → ParsesTwo x s o p o' r → NumberText x i n j → s ≡ i
    → Parses (bytes 2 n) j o p o' r
two_at_lem {n = n} {j} B h q = let there = number_moved h (sym q) in B.gives n j there.stands there.stops h.fits

-- a local, and an expression
pub pointed_way : {x : List ℕ} {i : ℕ} {o o₁ o₂ : List ℕ} {p t : ℕ} {y e : Parsed} → ParsesByte x i o p o₁ y → Skips x y.next 2 t
    → ParsesExpr x t 16 o₁ y.to o₂ e → ParsesPointed x i o p o₂ e
pointed_way Y T E = record {
  gives = λ n a k j h l g.
      let pointer = byte_at Y h l refl in
      let offset = expr_at E g (hop T pointer.ends (expr_from g)) in
      record { puts = put_cons pointer.puts offset.puts; ends = offset.ends };
}

-- both, from another place on
pub pointed_at : {x : List ℕ} {s i y : ℕ} {e : Expr} {k j : ℕ} {o o' : List ℕ} {p : ℕ} {r : Parsed} → ParsesPointed x s o p o' r → NumberText x i y k → y < 2 ^ 8
    → ExprText x (k + 2) max_depth 3 e j → s ≡ i → Parses (y ∷ expr e) j o p o' r
pointed_at {y = y} {e} {k} {j} P h l g q = P.gives y e k j (number_moved h (sym q)) l g

-- ---- targets

module _ {x : List ℕ} {i s : ℕ} {n : Numbered} (S : Skips x i 1 s) (N : ReadsNumber x s n) where
  -- what the target is
  target_is : {c d : ℕ} {a : Instr Plain} {j : ℕ} (w : TargetIn x i c d a j) → (n.number % 256 ≡ w.v) × (n.next ≡ w.k)
  target_is w =
      let is = number_is N w.target (hop S refl (number_from w.target)) in
      (omega (arith, is.0, w.small), is.1)

  -- z_set
  pub target_assign : {o o₁ o₂ o₃ : List ℕ} {p p₁ p₂ k t u : ℕ} {e : Parsed} → k ≡ get_or x (n.next + 5) 0 → k ≡ 115 → Put o p (0x20 ∷ []) o₁ p₁
      → Put o₁ p₁ (n.number % 256 ∷ []) o₂ p₂ → Skips x n.next 9 t → ParsesExpr x t 16 o₂ p₂ o₃ e → Skips x e.next 3 u
      → ParsesTarget x i o p o₃ (record { next = u; to = e.to })
  target_assign {o} {o₃ = o₃} {p} {p₁} {p₂} {k} {t} {u} {e} q f P Q T E U = record { gives = gives }
    where
      gives : (c d : ℕ) (a : Instr Plain) (j : ℕ) → InstrText x i c d a j → TargetIn x i c d a j → Parses (instr a) j o p o₃ (record { next = u; to = e.to })
      gives c d a j h w =
          let is = target_is w in
          let v : AssignIn x i c d a j w.v w.k = assign_in w (subst (λ k. get_or x (k + 5) 0 ≡ 115) is.1 (sym q ∙ f)) in
          let source = expr_at E v.source (hop T is.1 (expr_from v.source)) in
          let last : u ≡ v.l + 3 = hop U source.ends (omega (arith, v.ends, h.stands.fits)) in
          rw v.is
          (record {
            puts = put_cons P (put_cons (put_same (ap (λ n. n ∷ []) is.0) Q) source.puts);
            ends = omega (arith, v.ends);
          })

  -- z_read
  pub target_read : {o o₁ o₂ o₃ : List ℕ} {p p₁ p₂ k t u : ℕ} {e : Parsed} → k ≡ get_or x (n.next + 5) 0 → (k ≡ 115 → ⊥) → Put o p (0x22 ∷ []) o₁ p₁
      → Put o₁ p₁ (n.number % 256 ∷ []) o₂ p₂ → Skips x n.next 17 t → ParsesPointed x t o₂ p₂ o₃ e → Skips x e.next 3 u
      → ParsesTarget x i o p o₃ (record { next = u; to = e.to })
  target_read {o} {o₃ = o₃} {p} {p₁} {p₂} {k} {t} {u} {e} q f P Q T E U = record { gives = gives }
    where
      gives : (c d : ℕ) (a : Instr Plain) (j : ℕ) → InstrText x i c d a j → TargetIn x i c d a j → Parses (instr a) j o p o₃ (record { next = u; to = e.to })
      gives c d a j h w =
          let is = target_is w in
          let other : get_or x (n.next + 5) 0 ≡ 115 → ⊥ = λ g. f (q ∙ g) in
          let v : ReadIn x i c d a j w.v w.k = read_in w (subst (λ k. get_or x (k + 5) 0 ≡ 115 → ⊥) is.1 other) in
          let pointed = pointed_at E v.pointer v.small v.offset (hop T is.1 (number_from v.pointer)) in
          let last : u ≡ v.m + 3 = hop U pointed.ends (omega (arith, v.ends, h.stands.fits)) in
          rw v.is
          (record {
            puts = put_cons P (put_cons (put_same (ap (λ n. n ∷ []) is.0) Q) pointed.puts);
            ends = omega (arith, v.ends);
          })

-- ---- other lines

-- z_write
pub write_way : {x : List ℕ} {i : ℕ} {o o₁ o₂ o₃ : List ℕ} {p p₁ s t u : ℕ} {a e : Parsed} → Put o p (0x21 ∷ []) o₁ p₁ → Skips x i 15 s
    → ParsesPointed x s o₁ p₁ o₂ a → Skips x a.next 2 t → ParsesExpr x t 16 o₂ a.to o₃ e → Skips x e.next 3 u
    → ParsesWrite x i o p o₃ (record { next = u; to = e.to })
write_way {x} {i} {o} {o₃ = o₃} {p} {p₁} {s} {t} {u} {a} {e} P S A T E U = record { gives = gives }
  where
    gives : (c d : ℕ) (b : Instr Plain) (j : ℕ) → InstrText x i c d b j → WriteIn x i c d b j → Parses (instr b) j o p o₃ (record { next = u; to = e.to })
    gives c d b j h v =
        let pointed = pointed_at A v.pointer v.small v.offset (hop S refl (number_from v.pointer)) in
        let source = expr_at E v.source (hop T pointed.ends (expr_from v.source)) in
        let last : u ≡ v.m + 3 = hop U source.ends (omega (arith, v.ends, h.stands.fits)) in
        rw v.is
        (record {
          puts = put_cons P (put_then (v.y ∷ expr v.o) (expr v.e) pointed.puts source.puts);
          ends = omega (arith, v.ends);
        })

-- z_select
pub select_way : {x : List ℕ} {i : ℕ} {o o₁ o₂ o₃ : List ℕ} {p p₁ s t u : ℕ} {a b : Parsed} → Put o p (0x27 ∷ []) o₁ p₁ → Skips x i 9 s
    → ParsesTwo x s o₁ p₁ o₂ a → Skips x a.next 2 t → ParsesTwo x t o₂ a.to o₃ b → Skips x b.next 3 u
    → ParsesSelect x i o p o₃ (record { next = u; to = b.to })
select_way {x} {i} {o} {o₃ = o₃} {p} {p₁} {s} {t} {u} {a} {b} P S A T B U = record { gives = gives }
  where
    gives : (c d : ℕ) (l : Instr Plain) (j : ℕ) → InstrText x i c d l j → SelectIn x i c d l j → Parses (instr l) j o p o₃ (record { next = u; to = b.to })
    gives c d l j h v =
        let one = two_at_lem A v.first (hop S refl (number_from v.first)) in
        let two = two_at_lem B v.second (hop T one.ends (number_from v.second)) in
        let last : u ≡ v.l + 3 = hop U two.ends (omega (arith, v.ends, h.stands.fits)) in
        rw v.is
        (record { puts = put_cons P (put_then (bytes 2 v.a) (bytes 2 v.b) one.puts two.puts); ends = omega (arith, v.ends) })

-- ---- arguments

-- what is written from k on, behind n arguments, is what is written from i on, behind m
pub record MoreFrom (x : List ℕ) (i m : ℕ) (o : List ℕ) (p k n : ℕ) (o' : List ℕ) (q : ℕ) : Type 0 where
  pub back : {o'' : List ℕ} {r : Listed ℕ} → ParsesMore x k n o' q o'' r → ParsesMore x i m o p o'' r
  pub kept : length o' ≡ length o

-- no arguments
pub args_void : {x : List ℕ} {i k : ℕ} {o : List ℕ} {p : ℕ} → k ≡ get_or x (i + 0) 0 → k ≡ 41 → ParsesArgs x i o p o (record { count = 0; next = i; to = p })
args_void {x} {i} {k} {o} {p} e f = record {
  gives = λ es j h l.
      let close : get_or x i 0 ≡ 41 = rw add-zero at (sym e ∙ f) in
      let none = args_none h close in
      rw none.0 (record { count = refl; puts = put_none; ends = sym none.1 });
}

-- the first, and the others
pub args_first : {x : List ℕ} {i k : ℕ} {o o₁ o₂ : List ℕ} {p : ℕ} {e : Parsed} {r : Listed ℕ} → k ≡ get_or x (i + 0) 0 → (k ≡ 41 → ⊥)
    → ParsesExpr x i 16 o p o₁ e → ParsesMore x e.next 1 o₁ e.to o₂ r → ParsesArgs x i o p o₂ r
args_first {x} {i} {k} {o} {o₁} {o₂} {p} {e} {r} q f E M = record { gives = go }
  where
    go : (es : List Expr) (j : ℕ) → ArgsText x i es j → length es < 2 ^ 8 → Argued 0 es j o p o₂ r
    go es j h l =
        let same : k ≡ get_or x i 0 = rw add-zero at q in
        let some : SomeIn x i es j = args_some h (λ g. f (same ∙ g)) in
        let one = expr_at E some.here refl in
        let long : length es ≡ suc (length some.rest) = ap length some.is in
        let rest = M.gives some.rest j (subst (λ k. MoreText x k some.rest j) (sym one.ends) some.after) (omega arith) in
        rw some.is
        (record { count = omega (arith, rest.count); puts = put_then (expr some.e) (each expr some.rest) one.puts rest.puts; ends = rest.ends })

-- at the start
pub more_start : {x : List ℕ} {i m : ℕ} {o : List ℕ} {p : ℕ} → MoreFrom x i m o p i m o p
more_start = record { back = λ M. M; kept = refl }

module _ {x : List ℕ} {i m : ℕ} {o : List ℕ} {p k n : ℕ} {o₁ : List ℕ} {q : ℕ} (F : MoreFrom x i m o p k n o₁ q) where
  -- another
  pub more_next : {o₂ : List ℕ} {b s : ℕ} {e : Parsed} → b ≡ get_or x (k + 0) 0 → b ≡ 44 → Skips x k 2 s → ParsesExpr x s 16 o₁ q o₂ e
      → length o₂ ≡ length o₁ → MoreFrom x i m o p e.next (n + 1) o₂ e.to
  more_next {o₂} {b} {s} {e} c f S E keep = record { back = λ M. F.back (record { gives = λ es j h l. go M es j h l }); kept = keep ∙ F.kept }
    where
      go : {o'' : List ℕ} {r : Listed ℕ} → ParsesMore x e.next (n + 1) o₂ e.to o'' r → (es : List Expr) (j : ℕ) → MoreText x k es j
          → n + length es < 2 ^ 8 → Argued n es j o₁ q o'' r
      go {o''} {r} M es j h l =
          let comma : get_or x k 0 ≡ 44 = rw add-zero at (sym c ∙ f) in
          let some : SomeIn x (k + 2) es j = more_some h comma in
          let one = expr_at E some.here (hop S refl (expr_from some.here)) in
          let long : length es ≡ suc (length some.rest) = ap length some.is in
          let rest = M.gives some.rest j (subst (λ k. MoreText x k some.rest j) (sym one.ends) some.after) (omega arith) in
          rw some.is
          (record { count = omega (arith, rest.count); puts = put_then (expr some.e) (each expr some.rest) one.puts rest.puts; ends = rest.ends })

  -- no other
  pub more_end : {b : ℕ} → b ≡ get_or x (k + 0) 0 → (b ≡ 44 → ⊥) → ParsesMore x i m o p o₁ (record { count = n; next = k; to = q })
  more_end {b} c f = F.back (record { gives = go })
    where
      go : (es : List Expr) (j : ℕ) → MoreText x k es j → n + length es < 2 ^ 8 → Argued n es j o₁ q o₁ (record { count = n; next = k; to = q })
      go es j h l =
          let same : b ≡ get_or x k 0 = rw add-zero at c in
          let none = more_none h (λ g. f (same ∙ g)) in
          rw none.0 (record { count = omega arith; puts = put_none; ends = sym none.1 })

  -- as many as there may be
  more_many : 255 ≤ n → ParsesMore x i m o p o₁ (record { count = n; next = k; to = q })
  more_many f = F.back (record { gives = go })
    where
      go : (es : List Expr) (j : ℕ) → MoreText x k es j → n + length es < 2 ^ 8 → Argued n es j o₁ q o₁ (record { count = n; next = k; to = q })
      go [] j h l = record { count = omega arith; puts = put_none; ends = omega (arith, h.stands.ends) }
      go (e ∷ es) j h l = absurd (omega arith)

-- which is 255
pub more_full : {x : List ℕ} {i m : ℕ} {o : List ℕ} {p k : ℕ} (n : ℕ) {o₁ : List ℕ} {q : ℕ} → MoreFrom x i m o p k n o₁ q → 255 ≤ n → n ≤ 255
    → ParsesMore x i m o p o₁ (record { count = 255; next = k; to = q })
more_full {x} {i} {m} {o} {p} {k} n {o₁} {q} F f g =
    subst (λ n. ParsesMore x i m o p o₁ (record { count = n; next = k; to = q })) (omega arith) (more_many F f)

-- ---- calls

-- a byte before others
set_sets : (l : List ℕ) (q k b : ℕ) (bs : List ℕ) → q < k → set (sets l k bs) q b ≡ sets (set l q b) k bs
set_sets l q k b [] h = refl
set_sets l q k b (c ∷ bs) h =
    set_sets (set l k c) q (suc k) b bs (omega arith) ∙ ap (λ l. sets l (suc k) bs) (set_comm l k q c b (λ e. omega (arith, e)))

-- a byte that is written anew
pub put_anew : {o o' o'' : List ℕ} {p r z b c : ℕ} {bs : List ℕ} → Put o p (b ∷ bs) o' r → Put o' p (c ∷ []) o'' z → Put o p (c ∷ bs) o'' r
put_anew {o} {o'} {o''} {p} {b = b} {c} {bs} P C = record {
  wrote = λ l.
      C.wrote (omega arith) ∙ ap (λ l. set l p c) (P.wrote l) ∙ set_sets (set o p b) p (suc p) c bs (omega arith)
      ∙ ap (λ l. sets l (suc p) bs) (set-set o p b c);
  next = P.next;
  far = P.far;
  kept = C.kept ∙ P.kept;
}

-- the number of arguments, and the arguments
pub counted_way : {x : List ℕ} {i : ℕ} {o o₁ o₂ o₃ : List ℕ} {p q z : ℕ} {a : Listed ℕ} → Put o p (0 ∷ []) o₁ q → ParsesArgs x i o₁ q o₂ a
    → Put o₂ p (a.count ∷ []) o₃ z → ParsesCounted x i o p o₃ (record { next = a.next; to = a.to })
counted_way {a = a} Z A C = record {
  gives = λ es j h l.
      let args = A.gives es j h l in
      let total : a.count ≡ length es = omega (arith, args.count) in
      record { puts = put_same (ap (λ n. n ∷ each expr es) total) (put_anew (put_cons Z args.puts) C); ends = args.ends };
}

-- z_call
pub call_way : {x : List ℕ} {i : ℕ} {o o₁ o₂ o₃ : List ℕ} {p p₁ s t u : ℕ} {m a : Parsed} → Put o p (0x25 ∷ []) o₁ p₁ → Skips x i 11 s
    → ParsesTwo x s o₁ p₁ o₂ m → Skips x m.next 1 t → ParsesCounted x t o₂ m.to o₃ a → Skips x a.next 3 u
    → ParsesCall x i o p o₃ (record { next = u; to = a.to })
call_way {x} {i} {o} {o₃ = o₃} {p} {p₁} {s} {t} {u} {m} {a} P S M T A U = record { gives = gives }
  where
    gives : (c d : ℕ) (b : Instr Plain) (j : ℕ) → InstrText x i c d b j → CallIn x i c d b j → Parses (instr b) j o p o₃ (record { next = u; to = a.to })
    gives c d b j h v =
        let callee = two_at_lem M v.callee (hop S refl (number_from v.callee)) in
        let from : v.k + 1 ≤ length x = omega (arith, v.args.stands.ends, v.args.stands.fits) in
        let place : t ≡ v.k + 1 = hop T callee.ends from in
        let args = A.gives v.es v.l (subst (λ i. ArgsText x i v.es v.l) (sym place) v.args) v.count in
        let last : u ≡ v.l + 3 = hop U args.ends (omega (arith, v.ends, h.stands.fits)) in
        rw v.is
        (record {
          puts = put_cons P (put_then (bytes 2 v.m) (length v.es ∷ each expr v.es) callee.puts args.puts);
          ends = omega (arith, v.ends);
        })

-- one law for each way
pub ruleset target_ways = (target_assign, target_read)

pub ruleset write_ways = (pointed_way, write_way)

pub ruleset select_ways = (select_way)

pub ruleset args_ways = (args_void, args_first)

pub ruleset more_ways = (more_start, more_next, more_end, more_full)

pub ruleset call_ways = (counted_way, call_way)
