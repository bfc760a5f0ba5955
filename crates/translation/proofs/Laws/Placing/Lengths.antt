-- The length of the copy's table in both modes: two bytes less for each local that is saved. So 9 applies in the old mode alone or in
-- both, never in the shared one alone.
use Rattle.std.specs.Prelude.{ℕ, zero, suc, ◌+◌, ◌*◌, ◌≤◌, ◌≡◌, refl, true, false, List, [], ◌∷◌, ◌++◌, length}
use Rattle.std.proofs.Common.{arith, ◌∙◌, length-append}
use Rattle.std.proofs.lemmas.List.{length-replicate}
use Rattle.value.specs.Values.{not, equal}
use Rattle.value.specs.declared.Value.TheVariants.{Truth}
use Rattle.format.specs.Syntax.{Expr, constant, local, one, two, Instr, assign, write, read, while, if, call, atomic, select}
use Rattle.format.specs.Syntax.{Block, end, step, Proc, Program, Plain, concurrent, sequential}
use Rattle.format.specs.Encode.{expr, instr, block, bodies_of, middle_of, front, table, trailer, trailer_of}
use Rattle.format.specs.Encode as E
use Rattle.format.specs.Labels.{first, labelled, counts}
use Rattle.format.proofs.Laws.Heads.{length_heads}
use Rattle.format.proofs.Laws.Sections.{length_middle}
use Rattle.format.proofs.Laws.Sound.{Sound}
use Rattle.translation.specs.declared.Mode.TheVariants.{Own, Shared}
use Rattle.translation.specs.Placement.{row_of}
use Rattle.translation.specs.Layout.{Layout, sizes_by, layout_in}
use Rattle.translation.specs.Code.{◌then◌, num, loc, tid, tmp, aux, moved, shift, variables, put, pc, load, load_all}
use Rattle.translation.specs.Code.{assigns, reads, writes, tests, passes, calls, returns, inside_i, inside, code}
use Rattle.translation.specs.Translate.{each, held_by, simulations, begins, ends_of, stmt, terminated, for_each, switch, round, loop}
use Rattle.translation.specs.Translate.{interleavings, translate_by, translate_in}
use Rattle.translation.proofs.Laws.Placing.Shortest.{shared_shorter}

-- the bytes of a block
abbrev size : {A : Type 0} → Block A → ℕ
size b = length (block b)

-- two blocks of the same length
record Even (b c : Block Plain) : Type 0 where
  bytes : size b ≡ size c

-- a block and itself
even : {b : Block Plain} → Even b b
even = record { bytes = refl }

-- one instruction, then a block
size_step : (i j : Instr Plain) {b c : Block Plain} → length (instr i) ≡ length (instr j) → Even b c → Even (i then b) (j then c)
size_step i j {b} {c} p q = record { bytes = omega (arith, q.bytes, length-append (instr i) (block b), length-append (instr j) (block c)) }

-- an if with branches of the same length
size_if : (e : Expr) (b c b' c' : Block Plain) → Even b b' → Even c c' → length (instr (if e b c)) ≡ length (instr (if e b' c'))
size_if e b c b' c' h k =
    omega (
      arith,
      h.bytes,
      k.bytes,
      length-append (expr e) (block b ++ block c),
      length-append (block b) (block c),
      length-append (expr e) (block b' ++ block c'),
      length-append (block b') (block c'),
    )

-- ---- code has the same length wherever the copy keeps what

module _ (G H : Layout) (m n : ℕ) where
  -- a store
  size_put : (l k : ℕ) (e : Expr) {b c : Block Plain} → Even b c → Even (put G m n l e b) (put H m n k e c)
  size_put l k e {b} {c} h =
      size_step (assign tmp (loc l)) (assign tmp (loc k)) refl (size_step (write tmp (local tid) e) (write tmp (local tid) e) refl h)

  -- pc
  size_pc : (l : ℕ) → Even (pc G m n l) (pc H m n l)
  size_pc l = size_put G.pct H.pct (num l) even

  -- a load
  size_load : (x : ℕ) {b c : Block Plain} → Even b c → Even (load G m n x b) (load H m n x c)
  size_load x {b} {c} h =
      size_step (assign tmp (loc (G.home m x))) (assign tmp (loc (H.home m x))) refl
      (size_step (read (moved x) tmp (local tid)) (read (moved x) tmp (local tid)) refl h)

  -- several
  size_loads : (xs : List ℕ) {b c : Block Plain} → Even b c → Even (load_all G m n xs b) (load_all H m n xs c)
  size_loads [] h = h
  size_loads (x ∷ xs) h = size_load x (size_loads xs h)

  -- assign
  size_assigns : (x : ℕ) (e : Expr) {b c : Block Plain} → Even b c → Even (assigns G m n x e b) (assigns H m n x e c)
  size_assigns x e h = size_loads (variables 0 n (e ∷ [])) (size_put (G.home m x) (H.home m x) (shift e) h)

  -- read
  size_reads : (x y : ℕ) (o : Expr) {b c : Block Plain} → Even b c → Even (reads G m n x y o b) (reads H m n x y o c)
  size_reads x y o h =
      size_loads (variables 0 n (o ∷ []))
      (size_load y
      (size_step (read (moved x) (moved y) (shift o)) (read (moved x) (moved y) (shift o)) refl
      (size_put (G.home m x) (H.home m x) (local (moved x)) h)))

  -- write
  size_writes : (y : ℕ) (o e : Expr) {b c : Block Plain} → Even b c → Even (writes G m n y o e b) (writes H m n y o e c)
  size_writes y o e h =
      size_loads (variables 0 n (e ∷ []))
      (size_loads (variables 0 n (o ∷ []))
      (size_load y (size_step (write (moved y) (shift o) (shift e)) (write (moved y) (shift o) (shift e)) refl h)))

  -- tests
  size_tests : (e : Expr) (l k : ℕ) → Even (tests G m n e l k) (tests H m n e l k)
  size_tests e l k = size_loads (variables 0 n (e ∷ [])) (size_step (assign tmp (loc G.pct)) (assign tmp (loc H.pct)) refl even)

  -- arguments
  size_passes : (q i : ℕ) (es : List Expr) {b c : Block Plain} → Even b c → Even (passes G m n q i es b) (passes H m n q i es c)
  size_passes q i [] h = h
  size_passes q i (e ∷ es) h = size_put (G.home q i) (H.home q i) (shift e) (size_passes q (suc i) es h)

  -- a call
  size_calls : (q : ℕ) (es : List Expr) (l k : ℕ) → Even (calls G m n q es l k) (calls H m n q es l k)
  size_calls q es l k = size_loads (variables 0 n es) (size_passes q 0 es (size_put (G.from q) (H.from q) (num k) (size_pc l)))

  -- the end of a procedure
  size_returns : Even (returns G m n) (returns H m n)
  size_returns =
      size_step (assign tmp (loc (G.from m))) (assign tmp (loc (H.from m))) refl
      (size_step (read aux tmp (local tid)) (read aux tmp (local tid)) refl
      (size_step (assign tmp (loc G.pct)) (assign tmp (loc H.pct)) refl even))

  mutual
    -- inside an atomic block
    size_inside_i : (i : Instr ℕ) {b c : Block Plain} → Even b c → Even (inside_i G m n i b) (inside_i H m n i c)
    size_inside_i (assign x e) h = size_assigns x e h
    size_inside_i (write y o e) h = size_writes y o e h
    size_inside_i (read x y o) h = size_reads x y o h
    size_inside_i (while e b) h = h
    size_inside_i (if e b d) h =
        size_loads (variables 0 n (e ∷ []))
        (size_step (if (shift e) (inside G m n b end) (inside G m n d end)) (if (shift e) (inside H m n b end) (inside H m n d end))
        (size_if (shift e) _ _ _ _ (size_inside b even) (size_inside d even)) h)
    size_inside_i (call q es) h = h
    size_inside_i (atomic b) h = h
    size_inside_i (select x y) h = h

    -- of a block
    size_inside : (a : Block ℕ) {b c : Block Plain} → Even b c → Even (inside G m n a b) (inside H m n a c)
    size_inside end h = h
    size_inside (step a i b) h = size_inside_i i (size_inside b h)

  -- the code of a label
  size_code : (begin : ℕ → ℕ) (l : ℕ) (i : Instr ℕ) (k : ℕ) → Even (code G m n begin l i k) (code H m n begin l i k)
  size_code begin l (assign x e) k = size_assigns x e (size_pc k)
  size_code begin l (write y o e) k = size_writes y o e (size_pc k)
  size_code begin l (read x y o) k = size_reads x y o (size_pc k)
  size_code begin l (while e b) k = size_tests e (first l b) k
  size_code begin l (if e b d) k = size_tests e (first k b) (first k d)
  size_code begin l (call q es) k = size_calls q es (begin q) k
  size_code begin l (atomic b) k = size_inside b (size_pc k)
  size_code begin l (select x y) k = even

-- ---- procedures

-- as many procedures, and bodies of the same length
record Alike (ps qs : List (Proc Plain)) : Type 0 where
  count : length ps ≡ length qs
  bytes : length (E.each block (bodies_of ps)) ≡ length (E.each block (bodies_of qs))

-- one more
alike_more : {p q : Proc Plain} {ps qs : List (Proc Plain)} → Even p.body q.body → Alike ps qs → Alike (p ∷ ps) (q ∷ qs)
alike_more {p} {q} {ps} {qs} h a = record {
  count = omega (arith, a.count);
  bytes =
      omega (
        arith,
        h.bytes,
        a.bytes,
        length-append (block p.body) (E.each block (bodies_of ps)),
        length-append (block q.body) (E.each block (bodies_of qs)),
      );
}

-- one list after another
bodies_append : (ps qs : List (Proc Plain))
    → length (E.each block (bodies_of (ps ++ qs))) ≡ length (E.each block (bodies_of ps)) + length (E.each block (bodies_of qs))
bodies_append [] qs = omega arith
bodies_append (p ∷ ps) qs =
    omega (
      arith,
      bodies_append ps qs,
      length-append (block p.body) (E.each block (bodies_of (ps ++ qs))),
      length-append (block p.body) (E.each block (bodies_of ps)),
    )

-- so of lists that are alike
alike_append : {ps qs ps' qs' : List (Proc Plain)} → Alike ps ps' → Alike qs qs' → Alike (ps ++ qs) (ps' ++ qs')
alike_append {ps} {qs} {ps'} {qs'} a b = record {
  count = omega (arith, a.count, b.count, length-append ps qs, length-append ps' qs');
  bytes = omega (arith, a.bytes, b.bytes, bodies_append ps qs, bodies_append ps' qs');
}

-- none
alike_none : Alike [] []
alike_none = record { count = refl; bytes = refl }

module _ (G H : Layout) (begin : ℕ → ℕ) where
  module _ (m n : ℕ) where
    mutual
      -- those of the labels inside an instruction
      alike_held : (i : Instr ℕ) (l k : ℕ) → Alike (held_by G begin m n i l k) (held_by H begin m n i l k)
      alike_held (assign x e) l k = alike_none
      alike_held (write y o e) l k = alike_none
      alike_held (read x y o) l k = alike_none
      alike_held (while e b) l k = alike_each b l
      alike_held (if e b d) l k = alike_append (alike_each b k) (alike_each d k)
      alike_held (call q es) l k = alike_none
      alike_held (atomic b) l k = alike_none
      alike_held (select x y) l k = alike_none

      -- those of a block's labels
      alike_each : (b : Block ℕ) (k : ℕ) → Alike (each G begin m n b k) (each H begin m n b k)
      alike_each end k = alike_none
      alike_each (step l i b) k =
          alike_more (size_code G H m n begin l i (first k b)) (alike_append (alike_held i l (first k b)) (alike_each b k))

  -- those of all procedures
  alike_all : (ends : ℕ → ℕ) (m : ℕ) (ps : List (Proc ℕ)) → Alike (simulations G begin ends m ps) (simulations H begin ends m ps)
  alike_all ends m [] = alike_none
  alike_all ends m (p ∷ ps) =
      alike_append (alike_each m p.locals p.body (ends m)) (alike_more (size_returns G H m p.locals) (alike_all ends (suc m) ps))

-- ---- procedure 0

-- something for each thread
size_threads : (f g : ℕ → ℕ → Block Plain → Block Plain)
    → ((t m : ℕ) (b c : Block Plain) → Even b c → Even (f t m b) (g t m c))
    → (t : ℕ) (ms : List ℕ) {b c : Block Plain} → Even b c → Even (for_each f t ms b) (for_each g t ms c)
size_threads f g h t [] e = e
size_threads f g h t (m ∷ ms) e = h t m _ _ (size_threads f g h (suc t) ms e)

-- the choice of the label's procedure
size_switch : (l k : ℕ) {b c : Block Plain} → Even b c → Even (switch l k b) (switch l k c)
size_switch l zero e = e
size_switch l (suc k) e =
    size_step (if (two equal (local stmt) (num l)) (call l (local 0 ∷ []) then end) end)
    (if (two equal (local stmt) (num l)) (call l (local 0 ∷ []) then end) end) refl
    (size_switch (suc l) k e)

module _ (G H : Layout) (mains : List ℕ) (L : ℕ) where
  -- a round
  size_round : Even (round G mains L) (round H mains L)
  size_round =
      size_step (select G.ptid G.pct) (select H.ptid H.pct) refl
      (size_step (assign tmp (loc G.ptid)) (assign tmp (loc H.ptid)) refl
      (size_step (read 0 tmp (num 0)) (read 0 tmp (num 0)) refl
      (size_step (assign tmp (loc G.pct)) (assign tmp (loc H.pct)) refl
      (size_step (read stmt tmp (local 0)) (read stmt tmp (local 0)) refl
      (size_switch 1 L
      (size_step (assign terminated (constant (Truth true))) (assign terminated (constant (Truth true))) refl
      (size_step (assign tmp (loc G.pct)) (assign tmp (loc H.pct)) refl even)))))))

  -- the loop
  size_loop : Even (loop G mains L) (loop H mains L)
  size_loop =
      size_step (while (one not (local terminated)) (round G mains L)) (while (one not (local terminated)) (round H mains L))
      (omega (
        arith,
        size_round.bytes,
        length-append (expr (one not (local terminated))) (block (round G mains L)),
        length-append (expr (one not (local terminated))) (block (round H mains L)),
      ))
      even

  -- its body
  size_zeroth : (begin : ℕ → ℕ) → Even (interleavings G begin mains L) (interleavings H begin mains L)
  size_zeroth begin =
      size_step (assign tmp (loc G.pct)) (assign tmp (loc H.pct)) refl
      (size_threads (λ t m c. write tmp (num t) (num (begin m)) then c) (λ t m c. write tmp (num t) (num (begin m)) then c)
      (λ t m b c e. size_step (write tmp (num t) (num (begin m))) (write tmp (num t) (num (begin m))) refl e) 0 mains
      (size_threads (λ t m c. assign tmp (loc (G.from m)) then write tmp (num t) (num 0) then c)
      (λ t m c. assign tmp (loc (H.from m)) then write tmp (num t) (num 0) then c)
      (λ t m b c e.
      size_step (assign tmp (loc (G.from m))) (assign tmp (loc (H.from m))) refl
      (size_step (write tmp (num t) (num 0)) (write tmp (num t) (num 0)) refl e)) 0 mains
      (size_step (assign terminated (constant (Truth false))) (assign terminated (constant (Truth false))) refl size_loop)))

-- ---- the table

-- by its parts
table_length : (p : Program Plain)
    → length (table sequential p)
    ≡ length (E.each block (bodies_of p.procs)) + (6 * length p.procs + 2 * length p.sizes + 2 * length p.mains) + 16
table_length p =
    omega (
      arith,
      length-append (front p) (trailer (trailer_of sequential p)),
      length-append (E.each block (bodies_of p.procs)) (E.middle (middle_of p)),
      length_middle (middle_of p),
      length_heads 0 p.procs,
    )

-- THE COPY'S TABLE IS TWO BYTES SHORTER FOR EACH LOCAL THAT IS SAVED.
pub copy_length : (p : Program Plain) (G H : Layout) (R Q : ℕ)
    → length (table sequential (translate_by G (sizes_by R p) p)) + 2 * Q ≡ length (table sequential (translate_by H (sizes_by Q p) p)) + 2 * R
copy_length p G H R Q =
    let a : Alike (translate_by G (sizes_by R p) p).procs (translate_by H (sizes_by Q p) p).procs
    = alike_more (size_zeroth G H p.mains (counts p.procs) (begins p)) (alike_all G H (begins p) (ends_of p) 0 (labelled p).procs) in
    omega (
      arith,
      a.count,
      a.bytes,
      table_length (translate_by G (sizes_by R p) p),
      table_length (translate_by H (sizes_by Q p) p),
      sizes_length R,
      sizes_length Q,
    )
  where
    sizes_length : (R : ℕ) → length (sizes_by R p) ≡ length p.sizes + 2 + length p.procs + R
    sizes_length R =
        length-append p.sizes _ ∙ rw (length-replicate (1 + length p.procs + R) (length p.mains)) (omega arith)

-- SO THE SHARED MODE'S TABLE IS NEVER LONGER: 9 never applies in the shared mode alone.
pub shared_length : (p : Program Plain) → Sound concurrent p
    → length (table sequential (translate_in Shared p)) ≤ length (table sequential (translate_in Own p))
shared_length p sound =
    omega (
      arith,
      shared_shorter p.procs sound.calls,
      copy_length p (layout_in Shared p) (layout_in Own p) (row_of Shared p.procs) (row_of Own p.procs),
    )
