-- Two accepted programs with the same bytes before the trailer have as many procedures: P is unique.
use Rattle.std.specs.Prelude.{ℕ, suc, ◌+◌, ◌*◌, ◌-◌, ◌/◌, ◌≤◌, ◌<◌, ◌≡◌, refl, List, [], ◌∷◌, length, get_or, ltb}
use Rattle.std.proofs.Common.{arith, sym, ap, subst, ◌∙◌, ltb-true, ltb-false}
use Rattle.value.specs.Values.{bytes}
use Rattle.value.proofs.Laws.Tests.{by_test}
use Rattle.value.proofs.Laws.Lists.{Each, each_at, each_so, at_get_d}
use Rattle.format.specs.Syntax.{Block, end, step, assign, write, read, while, if, call, atomic, select, Program, Plain, Kind, concurrent, sequential}
use Rattle.format.specs.Encode.{block, front, table, distance, record_size}
use Rattle.format.specs.Rules.{limits, max_size}
use Rattle.format.proofs.Laws.Sound.{Sound, Within, LocalsRight}
use Rattle.format.proofs.Laws.Grammar.{block_long}
use Rattle.format.proofs.Laws.Passes.{takes_below, at_most}
use Rattle.format.proofs.Laws.Stands.{Stands, first, others, two_bytes}
use Rattle.format.proofs.Laws.TablePlaces.{body_at, records_at, length_table}
use Rattle.mending.proofs.Laws.Places.{proc_at, proc_at_lem, next_body, bodies_grow, front_length, records_behind, body_in_lem, record_in, size_in, main_in, bodies_same}

-- a body whose first byte begins no instruction is empty
pub empty_body : (b : Block Plain) → get_or (block b) 0 0 < 0x20 → length (block b) ≡ 1
empty_body end l = refl
empty_body (step a (assign x e) b) l = absurd (omega arith)
empty_body (step a (write y o e) b) l = absurd (omega arith)
empty_body (step a (read x y o) b) l = absurd (omega arith)
empty_body (step a (while e c) b) l = absurd (omega arith)
empty_body (step a (if e c d) b) l = absurd (omega arith)
empty_body (step a (call m es) b) l = absurd (omega arith)
empty_body (step a (atomic c) b) l = absurd (omega arith)
empty_body (step a (select x y) b) l = absurd (omega arith)

-- the first byte of what stands at a place
first_of : {t : List ℕ} {i : ℕ} (bs : List ℕ) {j : ℕ} → Stands t i bs j → 1 ≤ length bs → get_or t i 0 ≡ get_or bs 0 0
first_of [] s l = absurd (omega arith)
first_of (b ∷ bs) s l = first s

-- p has fewer procedures than q
module _ {k : Kind} (p q : Program Plain) (sp : Sound k p) (sq : Sound k q) (e : front p ≡ front q) (less : length p.procs < length q.procs) where
  -- the bytes
  abbrev u : List ℕ
  u = front q

  -- counts
  abbrev P : ℕ
  P = length p.procs

  -- of q
  abbrev Q : ℕ
  Q = length q.procs

  -- p's sizes
  abbrev M : ℕ
  M = length p.sizes

  -- p's records begin where q's body P does
  start : records_at p ≡ body_at q.procs P
  start = records_behind p sp ∙ bodies_same p q sp sq e P (omega arith) (omega arith)

  -- both fronts are as long
  whole : records_at p + distance P M (length p.mains) ≡ records_at q + distance Q (length q.sizes) (length q.mains)
  whole = sym (front_length p sp) ∙ ap length e ∙ front_length q sq

  -- a number of 2 bytes at a place
  abbrev half : ℕ → ℕ
  half i = get_or u i 0 + 256 * get_or u (i + 1) 0

  -- where bodies begin is a number of 2 bytes
  begins_low : (m : ℕ) → m < Q → body_at q.procs m < 65536
  begins_low m l = omega (arith, (body_in_lem q sq m l).fits, (body_in_lem q sq m l).ends, length_table k q {t = table k q} refl, sq.size, (at_most k).bytes)

  -- the low half of the offset in q's record m
  low_half : (m : ℕ) → m < Q → half (records_at q + record_size * m + 1 + 1) ≡ body_at q.procs m
  low_half m l =
      let s = others (others (record_in q sq m l)) in
      omega (arith, first s, first (others s), begins_low m l)

  -- and the high half
  high_half : (m : ℕ) → m < Q → half (records_at q + record_size * m + 1 + 1 + 1 + 1) ≡ 0
  high_half m l =
      let o : ℕ = body_at q.procs m in
      let s = others (others (others (others (record_in q sq m l)))) in
      two_bytes (o / 256 / 256) s (omega (arith, begins_low m l)) ∙ omega (arith, begins_low m l)

  -- p's size j
  size_half : (j : ℕ) → j < M → 1 ≤ half (records_at p + record_size * P + 2 * j)
  size_half j l =
      let s = subst (λ v. Stands v (records_at p + record_size * P + 2 * j) (bytes 2 (get_or p.sizes j 0)) (records_at p + record_size * P + 2 * j + 2)) e (size_in p sp j l) in
      let right : Within 1 max_size (get_or p.sizes j 0) = each_at (Within 1 max_size) p.sizes j sp.sizes (at_get_d p.sizes j 0 l) in
      omega (arith, two_bytes (get_or p.sizes j 0) s (omega (arith, right.high)), right.low)

  -- no offset's high half is one of p's sizes
  no_size : (m j : ℕ) → m < Q → records_at q + record_size * m + 4 ≡ records_at p + record_size * P + 2 * j → M ≤ j
  no_size m j l same =
      by_test (ltb j M)
      (λ t.
      let there : records_at q + record_size * m + 1 + 1 + 1 + 1 ≡ records_at p + record_size * P + 2 * j = omega arith in
      absurd (omega (arith, ap half there, high_half m l, size_half j (ltb-true j M t))))
      (λ t. ltb-false j M t)

  -- how far q's records reach into p's numbers
  abbrev over : ℕ
  over = M + length p.mains - (length q.sizes + length q.mains)

  -- they do
  reach : (records_at p + record_size * P + 2 * over ≡ records_at q + record_size * Q) × (records_at p + (Q - P) ≤ records_at q)
  reach =
      let grows : records_at p + (Q - P) ≤ records_at q = omega (arith, start, records_behind q sq, bodies_grow q.procs P Q (omega arith) (omega arith)) in
      (omega (arith, whole), grows)

  -- so p has threads
  threads : 1 ≤ length p.mains
  threads = omega (arith, reach, no_size (Q - 1) (over - 1) (omega arith) (omega (arith, reach)))

  -- the first byte of q's body P is the first of p's record 0
  first_bytes : get_or (block (proc_at q.procs P).body) 0 0 ≡ (proc_at p.procs 0).params
  first_bytes =
      let some : 1 ≤ P = sp.procs.low in
      let s = subst (λ v. Stands v (records_at p + record_size * 0) ((proc_at p.procs 0).params ∷ (proc_at p.procs 0).locals ∷ bytes 4 (body_at p.procs 0)) (records_at p + record_size * 0 + record_size)) e (record_in p sp 0 some) in
      let here : records_at p + record_size * 0 ≡ body_at q.procs P = omega (arith, start) in
      sym (first_of (block (proc_at q.procs P).body) (body_in_lem q sq P less) (block_long (proc_at q.procs P).body)) ∙ ap (λ i. get_or u i 0) (sym here) ∙ first s

  module _ (few : (limits k).locals < 0x20) where
    -- so that body is empty
    empty : length (block (proc_at q.procs P).body) ≡ 1
    empty =
        let right : LocalsRight (limits k).locals (proc_at p.procs 0) =
        each_at (LocalsRight (limits k).locals) p.procs 0 sp.locals (proc_at_lem p.procs 0 sp.procs.low)
        in
        empty_body (proc_at q.procs P).body (omega (arith, first_bytes, right.params, right.locals))

    -- one body more would make the front longer by an odd number
    two_more : P + 2 ≤ Q
    two_more =
        by_test (ltb (P + 1) Q)
        (λ t. let l : P + 1 < Q = ltb-true (P + 1) Q t in omega arith)
        (λ t.
        let one : Q ≡ suc P = omega (arith, ltb-false (P + 1) Q t) in
        let behind : records_at q ≡ body_at q.procs (suc P) = records_behind q sq ∙ ap (body_at q.procs) one in
        absurd (omega (arith, reach, behind, start, empty, next_body q.procs P (proc_at_lem q.procs P less))))

    -- the low half of q's last offset is one of p's mains, and too large
    no_main : Each (λ m. m < P) p.mains → ⊥
    no_main small =
        let low : M ≤ over - 4 = no_size (Q - 2) (over - 4) (omega (arith, two_more)) (omega (arith, reach, two_more)) in
        let n : ℕ = over - 2 - M in
        let inside : n < length p.mains = omega (arith, low, reach, two_more) in
        let last : Q - 1 < Q = omega (arith, less) in
        let s = subst (λ v. Stands v (records_at p + record_size * P + 2 * M + 2 * n) (bytes 2 (get_or p.mains n 0)) (records_at p + record_size * P + 2 * M + 2 * n + 2)) e (main_in p sp n inside) in
        let main : get_or p.mains n 0 < P = each_at (λ m. m < P) p.mains n small (at_get_d p.mains n 0 inside) in
        let here : records_at q + record_size * (Q - 1) + 1 + 1 ≡ records_at p + record_size * P + 2 * M + 2 * n = omega (arith, low, reach, two_more) in
        omega (
          arith,
          ap half here,
          low_half (Q - 1) last,
          two_bytes (get_or p.mains n 0) s (omega (arith, main, sp.procs.high, (at_most k).procs)),
          bodies_grow q.procs 0 (Q - 1) (omega arith) (omega arith),
          main,
          two_more,
        )

-- the fewer procedures are not fewer
not_fewer : (k : Kind) (p q : Program Plain) → Sound k p → Sound k q → front p ≡ front q → length p.procs < length q.procs → ⊥
not_fewer sequential p q sp sq e less = omega (arith, threads p q sp sq e less, sp.threads.high)
not_fewer concurrent p q sp sq e less =
    no_main p q sp sq e less (omega arith) (each_so (λ m t. takes_below p.procs m 0 t) p.mains sp.mains)

-- ONE FRONT HAS ONE COUNT OF PROCEDURES.
pub same_procs : (k : Kind) (p q : Program Plain) → Sound k p → Sound k q → front p ≡ front q → length p.procs ≡ length q.procs
same_procs k p q sp sq e =
    by_test (ltb (length p.procs) (length q.procs))
    (λ t. absurd (not_fewer k p q sp sq e (ltb-true _ _ t)))
    (λ t. by_test (ltb (length q.procs) (length p.procs))
    (λ s. absurd (not_fewer k q p sq sp (sym e) (ltb-true _ _ s)))
    (λ s.
    omega (arith, ltb-false (length p.procs) (length q.procs) t, ltb-false (length q.procs) (length p.procs) s)))
