-- One law for each way through the parser of a whole text.
use Prim.Native.Nat.{ℕ, suc, ◌+◌, ◌*◌, ◌-◌, ◌%◌, ◌≤◌, ◌<◌}
use native.Mathlib.Omega.{arith}
use mathlib.Core.Path.{◌≡◌, refl, sym, ap, subst, ◌∙◌}
use mathlib.Core.List.{List, [], ◌∷◌, ◌++◌, append-nil}
use lib.ListN.{length, take, drop, replicate, length-append, length-replicate}
use lib.Seq.{sets-eq, slice, slice_empty}
use Rattle.value.specs.Values.{bytes}
use Rattle.value.proofs.Laws.Lists.{Each, each_so}
use Rattle.format.specs.Syntax.{Proc, Program, Plain, sequential}
use Rattle.format.specs.Encode.{block, each, head, heads, bodies_of, middle, middle_of, front, trailer, trailer_of, distance, table, form_mark, kind_mark, record_size}
use Rattle.format.specs.Rules.{limits}
use Rattle.format.proofs.Laws.Sound.{Sound}
use Rattle.format.proofs.Laws.Stands.{Stands, stands_at, in_take}
use Rattle.basics.specs.Sizes.{too_long}
use Rattle.ctext.proofs.Worked.{prelude_long}
use Rattle.ctext.specs.Text.{text}
use Rattle.ctext.proofs.Laws.FrameText.{LocationsText}
use Rattle.ctext.proofs.Laws.DefinitionText.{DefinitionsText, DefinitionIn, definition_in}
use Rattle.ctext.proofs.Laws.LineText.{BlockText}
use Rattle.ctext.proofs.Laws.OneToOne.{ProgramText, program_text}
use Rattle.writer.specs.Laws.Put.{Put}
use Rattle.writer.proofs.Puts.{put_then, put_cons, put_same, put_none}
use Rattle.retable.specs.Laws.Pieces.{Skips}
use Rattle.retable.specs.Laws.Blocks.{ParsesBlock}
use Rattle.retable.specs.Laws.Frames.{ParsesSizes, SkipsAreas, Few, SkipsDeclarations, CountsLocals}
use Rattle.retable.specs.Laws.Whole.{Defines, ParsesDefinition, DefinesAll, ParsesDefinitions, FoundIn, Finds, PutsMiddle}
use Rattle.retable.specs.Laws.Whole.{Counts, Lengths, Trails, Reparses}
use Rattle.retable.specs.declared.exprs.Parsed.{Parsed}
use Rattle.retable.specs.declared.exprs.Listed.{Listed}
use Rattle.retable.specs.declared.frames.Counted.{Counted}
use Rattle.retable.specs.declared.frames.Locals.{Locals}
use Rattle.retable.specs.declared.whole.Defined.{Defined}
use Rattle.retable.specs.declared.whole.Coded.{Coded}
use Rattle.retable.specs.declared.whole.Found.{Found}
use Rattle.retable.proofs.Arguing.{hop}

-- ---- definitions

-- a record
pub record_way : {o o₁ o₂ o₃ : List ℕ} {p p₁ p₂ r a b : ℕ} (n : ℕ) → Put o p (a ∷ []) o₁ p₁ → Put o₁ p₁ (b ∷ []) o₂ p₂ → Put o₂ p₂ (bytes 4 n) o₃ r
    → Put o p (a ∷ b ∷ bytes 4 n) o₃ r
record_way n A B C = put_cons A (put_cons B C)

-- one definition
pub definition_way : {x : List ℕ} {i u : ℕ} {o o' : List ℕ} {q : ℕ} {row row' : List ℕ} {e n : ℕ} {l : Locals} {b : Parsed} → CountsLocals x i l
    → Put row e (l.params ∷ l.locals ∷ bytes 4 q) row' n → ParsesBlock x l.next 16 2 o q o' b → Skips x b.next 16 u
    → ParsesDefinition x i o q row e o' row' (record { next = u; to = b.to; row = n })
definition_way {x} {i} {u} {o} {o'} {q} {row} {row'} {e} {n} {l} {b} L P B U = record { gives = gives }
  where
    gives : (k : ℕ) (p : Proc Plain) (ps : List (Proc Plain)) (j : ℕ) (w : DefinitionIn x i k p ps j) → Few p
        → Defines p (w.e + 16) o q row e o' row' (record { next = u; to = b.to; row = n })
    gives k p ps j w few =
        let counts = L.gives k p ps j w few in
        let body = B.gives 1 p.body w.e refl (subst (λ i. BlockText x i 16 1 p.body w.e) (sym counts.ends) w.body) in
        record {
          body = body.puts;
          entry = rw (counts.params, counts.locals) at P;
          ends = hop U body.ends (omega (arith, w.after.stands.ends, w.after.stands.fits));
        }

-- what is written from j on is what is written from i on
pub record DefinedFrom (x : List ℕ) (i n : ℕ) (o : List ℕ) (q : ℕ) (row : List ℕ) (e j m : ℕ) (o₁ : List ℕ) (q₁ : ℕ) (row₁ : List ℕ) (e₁ : ℕ) : Type 0 where
  pub back : {o' row' : List ℕ} {r : Coded} → ParsesDefinitions x j m o₁ q₁ row₁ e₁ o' row' r → ParsesDefinitions x i n o q row e o' row' r
  pub kept : length o₁ ≡ length o
  pub rows : length row₁ ≡ length row

-- at the start
pub defined_start : {x : List ℕ} {i n : ℕ} {o : List ℕ} {q : ℕ} {row : List ℕ} {e : ℕ} → DefinedFrom x i n o q row e i (n - 0) o q row e
defined_start {n = n} = let all : n - 0 ≡ n = omega arith in rw all (record { back = λ D. D; kept = refl; rows = refl })

module _ {x : List ℕ} {i n : ℕ} {o : List ℕ} {q : ℕ} {row : List ℕ} {e j m : ℕ} {o₁ : List ℕ} {q₁ : ℕ} {row₁ : List ℕ} {e₁ : ℕ}
    (F : DefinedFrom x i n o q row e j m o₁ q₁ row₁ e₁) where
  -- one more
  defined_by : {o₂ row₂ : List ℕ} {d : Defined} → 0 < m → ParsesDefinition x j o₁ q₁ row₁ e₁ o₂ row₂ d → length o₂ ≡ length o₁
      → length row₂ ≡ length row₁ → DefinedFrom x i n o q row e d.next (m - 1) o₂ d.to row₂ d.row
  defined_by {o₂} {row₂} {d} some D keep rows = record {
    back = λ S. F.back (record { gives = λ k ps t h few l fits. go S k ps t h few l fits });
    kept = keep ∙ F.kept;
    rows = rows ∙ F.rows;
  }
    where
      go : {o' row' : List ℕ} {r : Coded} → ParsesDefinitions x d.next (m - 1) o₂ d.to row₂ d.row o' row' r → (k : ℕ) (ps : List (Proc Plain)) (t : ℕ)
          → DefinitionsText x j k ps t → Each Few ps → length ps ≡ m → q₁ + length (each block (bodies_of ps)) ≤ too_long
          → DefinesAll ps o₁ q₁ row₁ e₁ o' row' r
      go S k [] t h few l fits = absurd (omega arith)
      go {o'} {row'} {r} S k (p ∷ ps) t h few l fits =
          let w : DefinitionIn x j k p ps t = definition_in p ps h in
          let one = D.gives k p ps t w few.0 in
          let rest : List ℕ = each block (bodies_of ps) in
          let long : length (block p.body ++ rest) ≡ length (block p.body) + length rest = length-append (block p.body) rest in
          let next : d.to ≡ q₁ + length (block p.body) = one.body.next (omega arith) in
          let others = S.gives (suc k) ps t (subst (λ i. DefinitionsText x i (suc k) ps t) (sym one.ends) w.after) few.1 (omega arith) (omega arith) in
          let entries : Put row₂ d.row (each head (heads (q₁ + length (block p.body)) ps)) row' r.row =
          subst (λ n. Put row₂ d.row (each head (heads n ps)) row' r.row) next others.entries
          in
          record {
            code = put_then (block p.body) rest one.body others.code;
            entries = put_then (head (record { params = p.params; locals = p.locals; at = q₁ })) (each head (heads (q₁ + length (block p.body)) ps))
                one.entry entries;
          }

  -- none is left
  defined_over : m ≤ 0 → ParsesDefinitions x i n o q row e o₁ row₁ (record { to = q₁; row = e₁ })
  defined_over none = F.back (record { gives = go })
    where
      go : (k : ℕ) (ps : List (Proc Plain)) (t : ℕ) → DefinitionsText x j k ps t → Each Few ps → length ps ≡ m
          → q₁ + length (each block (bodies_of ps)) ≤ too_long → DefinesAll ps o₁ q₁ row₁ e₁ o₁ row₁ (record { to = q₁; row = e₁ })
      go k [] t h few l fits = record { code = put_none; entries = put_none }
      go k (p ∷ ps) t h few l fits = absurd (omega arith)

-- behind c of them
pub defined_next : {x : List ℕ} {i n : ℕ} {o : List ℕ} {q : ℕ} {row : List ℕ} {e j : ℕ} {o₁ : List ℕ} {q₁ : ℕ} {row₁ : List ℕ} {e₁ : ℕ} {o₂ row₂ : List ℕ}
    {d : Defined} (c : ℕ) → DefinedFrom x i n o q row e j (n - c) o₁ q₁ row₁ e₁ → c < n → ParsesDefinition x j o₁ q₁ row₁ e₁ o₂ row₂ d
    → length o₂ ≡ length o₁ → length row₂ ≡ length row₁ → DefinedFrom x i n o q row e d.next (n - (c + 1)) o₂ d.to row₂ d.row
defined_next {n = n} c F some D keep rows =
    let less : n - c - 1 ≡ n - (c + 1) = omega arith in
    rw less at (defined_by F (omega arith) D keep rows)

-- behind all of them
pub defined_end : {x : List ℕ} {i n : ℕ} {o : List ℕ} {q : ℕ} {row : List ℕ} {e j : ℕ} {o₁ : List ℕ} {q₁ : ℕ} {row₁ : List ℕ} {e₁ : ℕ} (c : ℕ)
    → DefinedFrom x i n o q row e j (n - c) o₁ q₁ row₁ e₁ → n ≤ c → ParsesDefinitions x i n o q row e o₁ row₁ (record { to = q₁; row = e₁ })
defined_end c F none = defined_over F (omega arith)

-- ---- around them

-- few locals
all_few : (p : Program Plain) → Sound sequential p → Each Few p.procs
all_few p s = each_so (λ q l. (l.params, l.locals)) p.procs s.locals

-- where the locations stand
sizes_at_lem : {x : List ℕ} (p : Program Plain) (h : ProgramText x p) → LocationsText x 5071 0 p.sizes h.a
sizes_at_lem {x} p h = subst (λ i. LocationsText x i 0 p.sizes h.a) prelude_long h.locations

-- what stands before the definitions
pub find_way : {x o o' : List ℕ} {p t a u : ℕ} {s : Listed ℕ} {d : Counted ℕ} → ParsesSizes x 5071 0 o p o' s → Skips x s.next 27 t → SkipsAreas x t s.count a
    → Skips x a 15 u → SkipsDeclarations x u 0 d
    → Finds x (record { locations = s.count % 65536; procedures = d.count % 65536; next = d.next })
find_way {x} {t = t} {a} {u} {s} {d} S T A U D = record { gives = gives }
  where
    gives : (q : Program Plain) → Sound sequential q → x ≡ text q
        → FoundIn x q (record { locations = s.count % 65536; procedures = d.count % 65536; next = d.next })
    gives q sound e =
        let h : ProgramText x q = program_text q sound e in
        let sizes = S.gives q.sizes h.a (sizes_at_lem q h) (omega (arith, sound.places)) in
        let start : t ≡ h.a + 27 = hop T sizes.ends (omega (arith, h.areas.ends, h.areas.fits)) in
        let count : s.count ≡ length q.sizes = omega (arith, sizes.count) in
        let areas : a ≡ h.b =
        A.to 0 q.sizes h.b (rw start h.areas) h.locations.fits (omega (arith, sound.places)) (sym count)
        in
        let last : u ≡ h.b + 15 = hop U areas (omega (arith, h.zeros.fits)) in
        let declared = D.gives q.procs h.c (rw last h.declarations) (all_few q sound) (omega (arith, sound.procs.high)) in
        record {
          locations = omega (arith, count, sound.places);
          procedures = omega (arith, declared.count, sound.procs.high);
          definitions = rw declared.ends h.definitions;
        }

-- a row that is too short
pub middle_cut : {x row : List ℕ} {e : ℕ} {o o' : List ℕ} {q r : ℕ} → length row < e → PutsMiddle x row e o q o' r
middle_cut l = record { gives = λ p s h bs a. absurd (omega (arith, a.fits)) }

-- what stands at the front of a row is that part of it
slice_is : {t bs : List ℕ} {j : ℕ} → Stands t 0 bs j → slice 0 j t ≡ bs
slice_is {t} {bs} {j} s = (in_take t j (omega arith) s).same ∙ rw slice_empty (append-nil bs)

-- records and sizes
pub middle_way : {x row : List ℕ} {e : ℕ} {o o₁ o₂ : List ℕ} {q q₁ : ℕ} {s : Listed ℕ} → Put o q (slice 0 e row) o₁ q₁ → ParsesSizes x 5071 0 o₁ q₁ o₂ s
    → PutsMiddle x row e o q o₂ s.to
middle_way P S = record {
  gives = λ p sound e bs a.
      let h = program_text p sound e in
      put_then bs (each (bytes 2) p.sizes) (put_same (slice_is a) P) (S.gives p.sizes h.a (sizes_at_lem p h) (omega (arith, sound.places))).puts;
}

-- ---- the trailer

-- the counts
pub counted : {o o₁ o₂ o₃ : List ℕ} {p p₁ p₂ p₃ : ℕ} (P M : ℕ) → Put o p (bytes 2 P) o₁ p₁ → Put o₁ p₁ (bytes 2 M) o₂ p₂ → Put o₂ p₂ (bytes 2 0) o₃ p₃
    → Counts P M o p o₃ p₃
counted P M A B C = record { gives = put_then (bytes 2 P) (bytes 2 M ++ bytes 2 0) A (put_then (bytes 2 M) (bytes 2 0) B C) }

-- the lengths
pub lengths : {o o₁ o₂ : List ℕ} {p p₁ p₂ : ℕ} (m n : ℕ) → Put o p (bytes 4 m) o₁ p₁ → Put o₁ p₁ (bytes 4 n) o₂ p₂ → Lengths m n o p o₂ p₂
lengths m n A B = record { gives = put_then (bytes 4 m) (bytes 4 n) A B }

-- all of it
pub trails : {o o₁ o₂ o₃ o₄ : List ℕ} {p p₁ p₂ p₃ p₄ P M whole : ℕ} → Put o p (kind_mark sequential ∷ []) o₁ p₁
    → Put o₁ p₁ (form_mark ∷ []) o₂ p₂ → Counts P M o₂ p₂ o₃ p₃ → Lengths (record_size * P + 2 * M) whole o₃ p₃ o₄ p₄ → Trails P M whole o p o₄ p₄
trails {o₃ = o₃} {o₄} {p₃ = p₃} {p₄} {P} {M} {whole} A B C L = record {
  gives =
      let back : record_size * P + 2 * M ≡ distance P M 0 = omega arith in
      let L' : Lengths (distance P M 0) whole o₃ p₃ o₄ p₄ = rw back at L in
      put_cons A (put_cons B (put_then (bytes 2 P ++ (bytes 2 M ++ bytes 2 0)) (bytes 4 (distance P M 0) ++ bytes 4 whole) C.gives L'.gives));
}

-- ---- a whole text

-- T is 0
none : (ms : List ℕ) → length ms ≤ 0 → ms ≡ []
none [] l = refl
none (m ∷ ms) l = absurd (omega arith)

-- how long records are
length_heads : (q : ℕ) (ps : List (Proc Plain)) → length (each head (heads q ps)) ≡ 6 * length ps
length_heads q [] = refl
length_heads q (p ∷ ps) =
    let rest = length_heads (q + length (block p.body)) ps in
    omega arith

-- what was put at the front of a row stands there
stands_put : {l bs l' : List ℕ} {r : ℕ} → Put l 0 bs l' r → length bs ≤ length l → length bs ≤ too_long → Stands l' 0 bs r
stands_put {l} {bs} {l'} {r} P fits few =
    let zero : 0 + length bs ≡ length bs = omega arith in
    let wrote : l' ≡ bs ++ drop (0 + length bs) l = P.wrote (omega arith) ∙ sets-eq bs l 0 (omega arith) in
    subst (Stands l' 0 bs) (sym (P.next (omega arith))) (stands_at l' 0 bs (drop (0 + length bs) l) wrote (omega arith))

module _ {x o o₁ o₂ : List ℕ} {row row₁ : List ℕ} {q : ℕ} {f : Found} {c : Coded} (F : Finds x f) (D : ParsesDefinitions x f.next f.procedures o 0 row 0 o₁ row₁ c)
    (wide : length row ≡ record_size * (limits sequential).procs) (M : PutsMiddle x row₁ c.row o₁ c.to o₂ q) where
  -- everything before the trailer
  front_put : (p : Program Plain) → Sound sequential p → x ≡ text p → Put o 0 (front p) o₂ q
  front_put p s e =
      let found = F.gives p s e in
      let bodies : List ℕ = each block (bodies_of p.procs) in
      let tables : length (table sequential p) ≡ length (front p) + length (trailer (trailer_of sequential p)) =
      length-append (front p) (trailer (trailer_of sequential p))
      in
      let fronts : length (front p) ≡ length bodies + length (middle (middle_of p)) = length-append bodies (middle (middle_of p)) in
      let all = D.gives 0 p.procs (length x) found.definitions (all_few p s) (sym found.procedures) (omega (arith, s.size)) in
      let entries : List ℕ = each head (heads 0 p.procs) in
      let long : length entries ≡ 6 * length p.procs = length_heads 0 p.procs in
      let stands = stands_put all.entries (omega (arith, s.procs.high)) (omega (arith, s.procs.high)) in
      let no_mains : p.mains ≡ [] = none p.mains s.threads.high in
      let ends : entries ++ each (bytes 2) p.sizes ≡ middle (middle_of p) =
      ap (λ l. entries ++ l) (sym (append-nil (each (bytes 2) p.sizes)) ∙ ap (λ ms. each (bytes 2) p.sizes ++ each (bytes 2) ms) (sym no_mains))
      in
      put_then bodies (middle (middle_of p)) all.code (put_same ends (M.gives p s e entries stands))

  -- where it ends
  front_next : (p : Program Plain) → Sound sequential p → x ≡ text p → (q ≡ length (front p)) × (length (front p) < too_long)
  front_next p s e =
      let tables : length (table sequential p) ≡ length (front p) + length (trailer (trailer_of sequential p)) =
      length-append (front p) (trailer (trailer_of sequential p))
      in
      let short : length (front p) < too_long = omega (arith, s.size) in
      ((front_put p s e).next (omega arith) ∙ omega arith, short)

  -- no text of ours is so long
  pub parse_far : {o₃ : List ℕ} {r : ℕ} → too_long ≤ q → Reparses x o o₃ r
  parse_far far = record { gives = λ p s e. let next = front_next p s e in absurd (omega (arith, next.0, next.1)) }

  -- all of it
  pub parse_way : {o₃ : List ℕ} {r : ℕ} → Trails f.procedures f.locations (q + 16) o₂ q o₃ r → Reparses x o o₃ r
  parse_way {o₃} {r} T = record { gives = gives }
    where
      gives : (p : Program Plain) → Sound sequential p → x ≡ text p → Put o 0 (table sequential p) o₃ r
      gives p s e =
          let found = F.gives p s e in
          let long : q + 16 ≡ length (front p) + 16 = omega (arith, (front_next p s e).0) in
          let no_mains : p.mains ≡ [] = none p.mains s.threads.high in
          let T' : Trails (length p.procs) (length p.sizes) (length (front p) + 16) o₂ q o₃ r = rw (found.procedures, found.locations, long) at T in
          let last : ℕ → List ℕ = λ T. trailer (record {
            kind = kind_mark sequential;
            mark = form_mark;
            procs = length p.procs;
            places = length p.sizes;
            threads = T;
            back = distance (length p.procs) (length p.sizes) T;
            whole = length (front p) + 16;
          }) in
          let threads : 0 ≡ length p.mains = omega (arith, s.threads.high) in
          let same : last 0 ≡ trailer (trailer_of sequential p) = ap last threads in
          put_then (front p) (trailer (trailer_of sequential p)) (front_put p s e) (put_same same T'.gives)

-- one law for each way
pub ruleset definition_ways = (record_way, definition_way)

pub ruleset defined_ways = (defined_start, defined_next, defined_end)

pub ruleset middle_ways = (find_way, middle_cut, middle_way)

pub ruleset trailer_ways = (counted, lengths, trails)

pub ruleset parse_ways = (parse_far, parse_way, length-replicate)
