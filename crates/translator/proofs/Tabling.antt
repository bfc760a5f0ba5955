-- One law for each way through the whole table.
use Prim.Native.Nat.{ℕ, zero, suc, ◌+◌, ◌-◌, ◌*◌, ◌%◌, ◌≤◌, ◌<◌}
use native.Mathlib.Omega.{arith}
use native.Mathlib.Decide.{dec_le}
use native.Mathlib.Numerals.{add-one}
use mathlib.Core.Path.{◌≡◌, refl, sym, ap, ◌∙◌}
use mathlib.Core.List.{List, [], ◌∷◌, ◌++◌, append_assoc, append-nil}
use lib.ListN.{length, get_or, take, drop, replicate, length-append, length-replicate}
use lib.Seq.{take_all}
use Rattle.value.specs.Maybe.{is}
use Rattle.value.specs.Values.{bytes}
use Rattle.value.specs.Lists.{at}
use Rattle.value.proofs.Laws.Maybes.{is_inj, missing}
use Rattle.format.specs.Syntax.{Proc, Program, Plain, concurrent, sequential}
use Rattle.format.specs.Encode.{block, each, Head, head, heads, middle, middle_of, front, trailer, trailer_of, distance, table, record_size, trailer_size}
use Rattle.format.specs.Encode.{form_mark, kind_mark}
use Rattle.labels.specs.LabelMap.{Mapped, node_of}
use Rattle.format.proofs.Laws.Heads.{length_heads}
use Rattle.labels.specs.Laws.LabelMap.{node_there}
use Rattle.format.proofs.Laws.Sections.{length_each}
use Rattle.format.proofs.Laws.Stands.{Stands, whole, back}
use Rattle.format.proofs.Laws.Stands as St
use Rattle.format.specs.Rules.{max_locals}
use Rattle.translation.specs.Layout.{locals_of}
use Rattle.translation.specs.Code.{moved}
use Rattle.translation.specs.Translate.{zeroth_in, later_in, translate_in}
use Rattle.basics.specs.Sizes.{too_long}
use Rattle.writer.specs.declared.page.Page.{Page}
use Rattle.writer.specs.Laws.Pages.{Puts}
use Rattle.emit.specs.Laws.Shapes.{Shaped, LocalsAt, RowsAt}
use Rattle.simulation.specs.Laws.Bodies.{bodies, simulated, PutsBodies}
use Rattle.zeroth.specs.Laws.Zeroth.{ZerothOf}
use Rattle.translator.specs.Laws.Tables.{HeadOf, Heading, HeadsOf, SizesOf, MiddleOf, CodeOf, Trails, WholeOf}
use Rattle.emit.specs.declared.layout.Shape.{Shape}
use Rattle.writer.proofs.Paging.{puts_then, puts_same}
use Rattle.emit.proofs.Copying.{slice_is}
use Rattle.simulation.proofs.Nodes.{later_at, length_later}
use Rattle.simulation.proofs.Simulating.{take_more, node_locals}

-- the copy in the mode of a shape
abbrev copy : Shape → Program Plain → Program Plain
copy h q = translate_in h.mode q

-- ---- parts

-- where counting stops, more is not counted
pub puts_stop : {o o' : Page} (a b : List ℕ) → Puts o a o' → too_long ≤ o'.at → 1 ≤ length b → Puts o (a ++ b) o'
puts_stop {o} {o'} a b A far some = record {
  puts = record { wrote = λ l. never l; next = λ l. never l; far = λ l. far; kept = A.puts.kept };
  same = A.same;
}
  where
    never : {G : Type 0} → o.at + length (a ++ b) ≤ too_long → G
    never l = let n : length (a ++ b) ≡ length a + length b = length-append a b in absurd (omega (arith, A.puts.next (omega arith)))

-- ---- records

-- the records of procedures, one by one
heads_nth : (base : ℕ) (ps : List (Proc Plain)) (k : ℕ) {f : Proc Plain} → at ps k ≡ is f
    → at (heads base ps) k ≡ is (record { params = f.params; locals = f.locals; at = base + length (bodies (take k ps)) })
heads_nth base [] k e = missing e
heads_nth base (p ∷ ps) zero {f} e =
    let same : p ≡ f = is_inj e in
    let here : base ≡ base + 0 = omega arith in
    rw (← same) (ap (λ (i : ℕ). is (record { params = p.params; locals = p.locals; at = i })) here)
heads_nth base (p ∷ ps) (suc k) {f} e =
    let n : length (block p.body ++ bodies (take k ps)) ≡ length (block p.body) + length (bodies (take k ps)) =
    length-append (block p.body) (bodies (take k ps))
    in
    let far : base + length (block p.body) + length (bodies (take k ps)) ≡ base + length (block p.body ++ bodies (take k ps)) = omega arith in
    heads_nth (base + length (block p.body)) ps k e
    ∙ ap (λ (i : ℕ). is (record { params = f.params; locals = f.locals; at = i })) far

-- the first bodies are not longer than all
bodies_most : (ps : List (Proc Plain)) (i : ℕ) → length (bodies (take i ps)) ≤ length (bodies ps)
bodies_most ps zero = omega arith
bodies_most [] (suc i) = omega arith
bodies_most (p ∷ ps) (suc i) =
    omega (arith, length-append (block p.body) (bodies (take i ps)), length-append (block p.body) (bodies ps), bodies_most ps i)

-- things one after the other, in two rows
each_append : {A : Type 0} (item : A → List ℕ) (xs ys : List A) → each item (xs ++ ys) ≡ each item xs ++ each item ys
each_append item [] ys = refl
each_append item (x ∷ xs) ys = ap (item x ++◌) (each_append item xs ys) ∙ sym (append_assoc (item x) (each item xs) (each item ys))

module _ {t : List ℕ} {h : Shape} {map offsets : List ℕ} where
  -- the record of a label's procedure
  pub head_label : {o o' : Page} {k n y : ℕ} → LocalsAt t h (get_or map (4 * (k + 1) + 1) 0) n → y ≡ (n + 3) % 256
      → Puts o (1 ∷ y ∷ bytes 4 (get_or offsets k 0)) o' → HeadOf t h map offsets k o o'
  head_label {o} {o'} {k} {n} {y} L e P = record {
    gives = λ q d w bounds mapped node.
        let there : get_or map (4 * (k + 1) + 1) 0 ≡ d.proc = mapped.proc (k + 1) d node in
        let locals : n ≡ locals_of (at q.procs d.proc) = L.gives q w ∙ ap (λ (m : ℕ). locals_of (at q.procs m)) there in
        let few : locals_of (at q.procs d.proc) ≤ max_locals = node_locals q (k + 1) w.sound node in
        let same : y ≡ moved (locals_of (at q.procs d.proc)) = omega (arith, e, locals, few) in
        rw same at P;
  }

  -- one more
  pub heading_next : {o o₁ o₂ : Page} {k n : ℕ} → Heading t h map offsets k o o₁ → n ≡ h.labels → k < n → HeadOf t h map offsets k o₁ o₂
      → Heading t h map offsets (k + 1) o o₂
  heading_next {o} {o₁} {o₂} {k} {n} D all less H = record {
    done = λ q base w bounds mapped right.
        let d = node_there q (suc k) (omega arith) (omega (arith, all, less, w.labels)) in
        let f : Proc Plain = simulated h.mode q d.0 in
        let rest : List (Proc Plain) = later_in h.mode q in
        let one : Puts o₁ (head (record { params = 1; locals = f.locals; at = get_or offsets k 0 })) o₂ =
        H.gives q d.0 w bounds mapped (ap (node_of q) (add-one k) ∙ d.1)
        in
        let place : get_or offsets k 0 ≡ base + length (bodies (take k rest)) = right.at k (omega (arith, all, less, w.labels)) in
        let here : Head = record { params = 1; locals = f.locals; at = base + length (bodies (take k rest)) } in
        let one' : Puts o₁ (head here) o₂ = rw place at one in
        let more : each head (take (k + 1) (heads base rest)) ≡ each head (take k (heads base rest)) ++ head here =
        ap (each head) (take_more (heads base rest) k (heads_nth base rest k (later_at h.mode q k d.1)))
        ∙ each_append head (take k (heads base rest)) (here ∷ []) ∙ ap (each head (take k (heads base rest)) ++◌) (append-nil (head here))
        in
        puts_same (sym more) (puts_then (each head (take k (heads base rest))) (head here) (D.done q base w bounds mapped right) one');
  }

  -- after the last
  pub heading_end : {o o' : Page} {k n : ℕ} → Heading t h map offsets k o o' → n ≡ h.labels → n ≤ k → HeadsOf t h map offsets o o'
  heading_end {k = k} D count more = record {
    gives = λ q base w bounds mapped right.
        let rest : List (Proc Plain) = later_in h.mode q in
        let all : take k (heads base rest) ≡ heads base rest =
        take_all k (heads base rest) (omega (arith, length_heads base rest, length_later h.mode q, count, more, w.labels))
        in
        puts_same (ap (each head) all) (D.done q base w bounds mapped right);
  }

-- ---- sizes

-- one size more
pub rows_next : {o o₁ o₂ : Page} (k size : ℕ) → Puts o (each (bytes 2) (replicate k size)) o₁ → Puts o₁ (bytes 2 size) o₂
    → Puts o (each (bytes 2) (replicate (k + 1) size)) o₂
rows_next k size A B = puts_same (more k) (puts_then (each (bytes 2) (replicate k size)) (bytes 2 size) A B)
  where
    more : (k : ℕ) → each (bytes 2) (replicate k size) ++ bytes 2 size ≡ each (bytes 2) (replicate (k + 1) size)
    more zero = refl
    more (suc k) =
        let same : suc (k + 1) ≡ suc k + 1 = omega arith in
        ap (bytes 2 size ++◌) (more k) ∙ ap (λ (n : ℕ). each (bytes 2) (replicate n size)) same

module _ {t : List ℕ} {h : Shape} where
  -- the source's sizes stand in its table
  sizes_stand : (q : Program Plain) → Shaped t h q
      → Stands t (h.records + record_size * h.procedures) (each (bytes 2) q.sizes) (h.records + record_size * h.procedures + 2 * h.locations)
  sizes_stand q w =
      let records : List ℕ = each head (heads 0 q.procs) in
      let sizes : List ℕ = each (bytes 2) q.sizes in
      let mains : List ℕ = each (bytes 2) q.mains in
      let bs : List ℕ = bodies q.procs in
      let all : Stands t 0 (front q) (0 + length (front q)) = St.front (front q) (trailer (trailer_of concurrent q)) (whole w.is) in
      let here = St.front sizes mains (back records (sizes ++ mains) (back bs (records ++ (sizes ++ mains)) all)) in
      let long : length records ≡ record_size * length q.procs =
      length_each head record_size (λ h. refl) (heads 0 q.procs) ∙ ap (λ (n : ℕ). record_size * n) (length_heads 0 q.procs)
      in
      let long' : length sizes ≡ 2 * length q.sizes = length_each (bytes 2) 2 (λ n. refl) q.sizes in
      let from : 0 + length bs + length records ≡ h.records + record_size * h.procedures = omega (arith, w.records, w.procedures) in
      let until : h.records + record_size * h.procedures + length sizes ≡ h.records + record_size * h.procedures + 2 * h.locations =
      omega (arith, w.locations)
      in
      rw until at (rw from at here)

  -- the table is too short for them
  pub sizes_cut : {o o' : Page} {r c l : ℕ} → r ≡ h.records → c ≡ h.procedures → l ≡ h.locations → length t < r + record_size * c + 2 * l
      → SizesOf t h o o'
  sizes_cut r c l short = record { gives = λ q w. absurd (omega (arith, r, c, l, short, (sizes_stand q w).fits)) }

  -- the source's, that of ptid, and the others
  pub sizes_all : {o o₁ o₂ o₃ : Page} {r c l n k : ℕ} → r ≡ h.records → c ≡ h.procedures → l ≡ h.locations
      → Puts o (take (r + record_size * c + 2 * l - (r + record_size * c)) (drop (r + record_size * c) t)) o₁
      → Puts o₁ (bytes 2 1) o₂ → RowsAt h n → k ≡ h.threads → Puts o₂ (each (bytes 2) (replicate n k)) o₃ → SizesOf t h o o₃
  sizes_all {o} {o₁} {o₂} {o₃} {r} {c} {l} {n} {k} er ec el A B R ek C = record {
    gives = λ q w.
        let A' : Puts o (take (h.records + record_size * h.procedures + 2 * h.locations - (h.records + record_size * h.procedures))
        (drop (h.records + record_size * h.procedures) t)) o₁ =
        rw (er, ec, el) at A
        in
        let first : Puts o (each (bytes 2) q.sizes) o₁ = puts_same (slice_is (sizes_stand q w)) A' in
        let rows : Puts o₂ (each (bytes 2) (replicate n (length q.mains))) o₃ = rw (ek ∙ w.threads) at C in
        let all : each (bytes 2) (copy h q).sizes ≡ each (bytes 2) q.sizes ++ (bytes 2 1 ++ each (bytes 2) (replicate n (length q.mains))) =
        ap (each (bytes 2)) (R.gives t q w) ∙ each_append (bytes 2) q.sizes (1 ∷ replicate n (length q.mains))
        in
        puts_same (sym all) (puts_then (each (bytes 2) q.sizes) _ first (puts_then (bytes 2 1) _ B rows));
  }

  module _ {map offsets : List ℕ} where
    -- records and sizes
    pub middles : {o o₁ o₂ o₃ : Page} → Puts o (0 ∷ 4 ∷ bytes 4 0) o₁ → HeadsOf t h map offsets o₁ o₂
        → SizesOf t h o₂ o₃
        → MiddleOf t h map offsets o o₃
    middles A H S = record {
      gives = λ q w bounds mapped right.
          let base : ℕ = 0 + length (block (zeroth_in h.mode q).body) in
          let first : List ℕ = each head (heads base (later_in h.mode q)) in
          let last : List ℕ = each (bytes 2) (copy h q).sizes in
          let all : (0 ∷ 4 ∷ bytes 4 0) ++ (first ++ last) ≡ middle (middle_of (copy h q)) =
          ap (λ (xs : List ℕ). (0 ∷ 4 ∷ bytes 4 0) ++ (first ++ xs)) (sym (append-nil last))
          in
          puts_same all (puts_then (0 ∷ 4 ∷ bytes 4 0) _ A (puts_then first last (H.gives q base w bounds mapped right) (S.gives q w)));
    }

  -- ---- the bodies

  module _ {map bounds offsets : List ℕ} where
    -- all of them
    pub coded : {o o₁ o₂ : Page} → ZerothOf t h bounds o o₁ → PutsBodies t h map bounds offsets o₁ o₂ → CodeOf t h map bounds offsets o o₂
    coded {o} {o₁} {o₂} Z B = record {
      gives = λ q w m.
          puts_then (block (zeroth_in h.mode q).body) (bodies (later_in h.mode q)) (Z.gives q w (record { begins = m.begins })).puts
          (B.gives q w m);
      places = λ q w m start less. record {
        at = λ i l.
            let before : ℕ = 0 + length (block (zeroth_in h.mode q).body) in
            let after : List (Proc Plain) = later_in h.mode q in
            let zero-first = (Z.gives q w (record { begins = m.begins })).puts.puts in
            let rest = (B.gives q w m).puts in
            let small : o₁.at + length (bodies after) < too_long = elim (dec_le too_long (o₁.at + length (bodies after))) [
              | yes far ↦ absurd (omega (arith, rest.far far, less))
              | no near ↦ omega arith
            ] in
            let near : before ≤ too_long = elim (dec_le too_long before) [
              | yes far ↦ absurd (omega (arith, zero-first.far (omega (arith, start, far)), small))
              | no close ↦ omega arith
            ] in
            let base : o₁.at ≡ before = omega (arith, start, zero-first.next (omega (arith, start, near))) in
            (B.places q w m).at i l (omega (arith, bodies_most after i, small)) ∙ ap (λ (n : ℕ). n + length (bodies (take i after))) base;
      };
    }

-- ---- the trailer

-- its marks, its counts and its lengths
pub trails : {o o₁ o₂ o₃ o₄ o₅ o₆ : Page} {P M whole : ℕ} → Puts o (kind_mark sequential ∷ form_mark ∷ []) o₁ → Puts o₁ (bytes 2 P) o₂
    → Puts o₂ (bytes 2 M) o₃ → Puts o₃ (bytes 2 0) o₄ → Puts o₄ (bytes 4 (record_size * P + 2 * M)) o₅ → Puts o₅ (bytes 4 whole) o₆
    → Trails P M whole o o₆
trails {o₄ = o₄} {o₅} {P = P} {M} {whole} A B C D E F = record {
  gives =
      let back : record_size * P + 2 * M ≡ distance P M 0 = omega arith in
      let E' : Puts o₄ (bytes 4 (distance P M 0)) o₅ = rw back at E in
      puts_then (kind_mark sequential ∷ form_mark ∷ []) _ A
      (puts_then (bytes 2 P ++ (bytes 2 M ++ bytes 2 0)) (bytes 4 (distance P M 0) ++ bytes 4 whole)
      (puts_then (bytes 2 P) (bytes 2 M ++ bytes 2 0) B (puts_then (bytes 2 M) (bytes 2 0) C D))
      (puts_then (bytes 4 (distance P M 0)) (bytes 4 whole) E' F));
}

-- ---- the table

-- the parts of the copy's table
parts : (h : Shape) (q : Program Plain)
    → bodies (copy h q).procs ++ (middle (middle_of (copy h q)) ++ trailer (trailer_of sequential (copy h q))) ≡ table sequential (copy h q)
parts h q = sym (append_assoc (bodies (copy h q).procs) (middle (middle_of (copy h q))) (trailer (trailer_of sequential (copy h q))))

module _ {t : List ℕ} {h : Shape} {map bounds : List ℕ} where
  -- too long after the bodies
  pub table_bodies : {offsets : List ℕ} {o o' : Page} {n : ℕ} → CodeOf t h map bounds offsets o o' → n ≡ o'.at → too_long ≤ n
      → WholeOf t h map bounds o o'
  table_bodies C place far = record {
    gives = λ q w m start.
        let rest : List ℕ = middle (middle_of (copy h q)) ++ trailer (trailer_of sequential (copy h q)) in
        let some : 1 ≤ length rest = omega (arith, length-append (middle (middle_of (copy h q))) (trailer (trailer_of sequential (copy h q)))) in
        puts_same (parts h q) (puts_stop (bodies (copy h q).procs) rest (C.gives q w m) (omega (arith, place, far)) some);
  }

  -- too long after the sizes
  pub table_sizes : {offsets : List ℕ} {o o₁ o₂ : Page} {n k : ℕ} → CodeOf t h map bounds offsets o o₁ → n ≡ o₁.at → n < too_long
      → MiddleOf t h map offsets o₁ o₂ → k ≡ o₂.at → too_long ≤ k → WholeOf t h map bounds o o₂
  table_sizes {offsets = offsets} C first less M second far = record {
    gives = λ q w m start.
        puts_stop (front (copy h q)) (trailer (trailer_of sequential (copy h q)))
        (puts_then (bodies (copy h q).procs) (middle (middle_of (copy h q))) (C.gives q w m)
        (M.gives q w bounds m (C.places q w m start (omega (arith, first, less)))))
        (omega (arith, second, far)) (omega arith);
  }

  -- all of it
  pub table_all : {offsets : List ℕ} {o o₁ o₂ o₃ : Page} {n k r l c : ℕ} → CodeOf t h map bounds offsets o o₁ → n ≡ o₁.at → n < too_long
      → MiddleOf t h map offsets o₁ o₂ → k ≡ o₂.at → k < too_long → l ≡ h.locations → RowsAt h r → c ≡ h.labels
      → Trails (c + 1) (l + 1 + r) (k + trailer_size) o₂ o₃ → WholeOf t h map bounds o o₃
  table_all {offsets} {o} {o₁} {o₂} {o₃} {n} {k} {r} {l} {c} C first less M second near places R labels T = record { gives = gives }
    where
      gives : (x : Program Plain) → Shaped t h x → Mapped x map bounds → o.at ≡ 0 → Puts o (table sequential (copy h x)) o₃
      gives x w m start =
          let all : Puts o (front (copy h x)) o₂ =
          puts_then (bodies (copy h x).procs) (middle (middle_of (copy h x))) (C.gives x w m)
          (M.gives x w bounds m (C.places x w m start (omega (arith, first, less))))
          in
          let short : o.at + length (front (copy h x)) ≤ too_long = elim (dec_le too_long (o.at + length (front (copy h x)))) [
            | yes far ↦ absurd (omega (arith, all.puts.far far, second, near))
            | no close ↦ omega arith
          ] in
          let long : k + trailer_size ≡ length (front (copy h x)) + trailer_size = omega (arith, all.puts.next short, start, second) in
          let procs : c + 1 ≡ length (copy h x).procs = omega (arith, labels, w.labels, length_later h.mode x) in
          let sizes : l + 1 + r ≡ length (copy h x).sizes =
          omega (
            arith,
            ap length (R.gives t x w),
            length-append x.sizes (1 ∷ replicate r (length x.mains)),
            length-replicate r (length x.mains),
            places,
            w.locations,
          )
          in
          let T' : Trails (length (copy h x).procs) (length (copy h x).sizes) (length (front (copy h x)) + trailer_size) o₂ o₃ =
          rw (procs, sizes, long) at T
          in
          puts_then (front (copy h x)) (trailer (trailer_of sequential (copy h x))) all T'.gives

-- one law for each way
pub ruleset table_ways = (
  head_label,
  heading_next,
  heading_end,
  rows_next,
  sizes_cut,
  sizes_all,
  middles,
  coded,
  trails,
  table_bodies,
  table_sizes,
  table_all,
)
