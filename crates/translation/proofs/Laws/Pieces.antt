-- The code of one label is right: each piece, before a rest that is right where more is set.
use Rattle.std.specs.Prelude.{ℕ, suc, ◌+◌, ◌^◌, ◌≤◌, ◌<◌, ◌≡◌, List, [], ◌∷◌, true, length}
use Rattle.std.proofs.Common.{arith}
use Rattle.value.proofs.Laws.Tests.{either_left, either_right}
use Rattle.value.proofs.Laws.Lists.{Each, each_so}
use Rattle.format.specs.Syntax.{Expr, local, Block, end, Program, Plain}
use Rattle.format.specs.Rules.{Here, Known, with, max_locals}
use Rattle.format.proofs.Laws.Names.{InRange}
use Rattle.format.proofs.Laws.Depths.{depth, WholesRight, ExprRight}
use Rattle.format.proofs.Laws.Sets.{◌⊆◌, and_more, set_there, set_more, known_more}
use Rattle.translation.specs.Layout.{Layout}
use Rattle.translation.specs.Code.{num, loc, tid, tmp, aux, moved, mentioned, mentions, variables}
use Rattle.translation.specs.Code.{shift, put, pc, load, load_all, loads, assigns, reads}
use Rattle.translation.specs.Code.{writes, goto, tests, passes, calls, returns}
use Rattle.translation.proofs.Laws.Right.{Given, num_given, loc_given, local_given}
use Rattle.translation.proofs.Laws.Right.{Right, end_right, assign_right, write_right, read_right, if_right}
use Rattle.translation.proofs.Laws.Exprs.{shift_right, shift_named, shift_known, variables_below, variables_all}

-- an expression of the source, in a procedure of n locals of a program with M locations
pub record Source (n M : ℕ) (e : Expr) : Type 0 where
  pub right : ExprRight e
  pub named : InRange n M e

-- procedure m of the source has n locals, and their locations are in the copy p
pub record Scene (p : Program Plain) (G : Layout) (m n M : ℕ) : Type 0 where
  pub few : n ≤ max_locals
  pub more : M ≤ length p.sizes
  pub pct : G.pct < length p.sizes
  pub from : G.from m < length p.sizes
  pub home : (x : ℕ) → x < n → G.home m x < length p.sizes

-- an expression in a procedure of the copy, which has 3 locals more
abbrev pub Stands : Program Plain → ℕ → Known → Expr → Type 0
Stands p n = Given p (moved n)

module _ (p : Program Plain) (here : Here) (n : ℕ) where
  -- code there, that calls nothing
  abbrev pub Fine : ℕ → Known → Block Plain → Type 0
  Fine = Right p (moved n) here (λ c. ⊥)

  -- what follows is right where s and more is set
  abbrev pub Follows : ℕ → Known → Block Plain → Type 0
  Follows d s c = (u : Known) → s ⊆ u → Fine d u c

module _ {p : Program Plain} {G : Layout} {m n M : ℕ} (scene : Scene p G m n M) where
  -- what stands where s is set stands where more is
  stands_more : {s u : Known} {e : Expr} → s ⊆ u → Stands p n s e → Stands p n u e
  stands_more {e = e} h g = record { right = g.right; named = g.named; known = known_more e h g.known }

  -- where each variable that they mention is loaded, expressions stand
  loaded : (es : List Expr) (u : Known) → Each (Source n M) es → ((x : ℕ) → x < n → mentions x es ≡ true → u (moved x) ≡ true)
      → Each (λ e. Stands p n u (shift e)) es
  loaded [] u h l = tt
  loaded (e ∷ es) u h l =
      let moves : (depth (shift e) ≡ depth e) × WholesRight (shift e) = shift_right e h.0.right.wholes in (
        record {
          right = record { deep = rw moves.0 h.0.right.deep; wholes = moves.1 };
          named = shift_named e n M (length p.sizes) scene.more h.0.named;
          known = shift_known e n M u h.0.named (λ x k i. l x k (either_left (mentions x es) i));
        },
        loaded es u h.1 (λ x k i. l x k (either_right (mentioned x e) i)),
      )

module _ {p : Program Plain} {here : Here} {G : Layout} {m n M : ℕ} (scene : Scene p G m n M) where
  module _ {d : ℕ} {s : Known} (set : s tid ≡ true) where
    -- tmp := location; tmp[tid] := e
    pub put_right : (l : ℕ) (e : Expr) (c : Block Plain) → l < length p.sizes → Stands p n s e → Follows p here n d s c
        → Fine p here n d s (put G m n l e c)
    put_right l e c h g r =
        let u : Known = with s tmp in
        assign_right tmp (loc l) (omega arith) (loc_given l h)
        (write_right tmp (local tid) e (omega arith) (set_there s tmp) (local_given tid (omega arith) (set_more s tmp tid set))
        (stands_more scene (set_more s tmp) g)
        (r u (set_more s tmp)))

    -- the next label
    pub pc_right : (k : ℕ) → k < 2 ^ 31 → 1 ≤ d → Fine p here n d s (pc G m n k)
    pc_right k h deep = put_right G.pct (num k) end scene.pct (num_given k h) (λ u _. end_right deep)

    -- a load sets its variable
    load_right : (x : ℕ) (c : Block Plain) → x < n → ((u : Known) → s ⊆ u → u (moved x) ≡ true → Fine p here n d u c)
        → Fine p here n d s (load G m n x c)
    load_right x c h r =
        let u : Known = with s tmp in
        assign_right tmp (loc (G.home m x)) (omega arith) (loc_given (G.home m x) (scene.home x h))
        (read_right (moved x) tmp (local tid) (omega arith) (omega arith) (set_there s tmp) (local_given tid (omega arith) (set_more s tmp tid set))
        (r (with u (moved x)) (and_more (set_more s tmp) (set_more u (moved x))) (set_there u (moved x))))

  -- ---- loads

  -- loads set their variables
  load_all_right : (xs : List ℕ) {d : ℕ} {s : Known} (c : Block Plain) → s tid ≡ true → Each (λ x. x < n) xs
      → ((u : Known) → s ⊆ u → Each (λ x. u (moved x) ≡ true) xs → Fine p here n d u c) → Fine p here n d s (load_all G m n xs c)
  load_all_right [] c set h r = r _ (λ x e. e) tt
  load_all_right (x ∷ xs) c set h r =
      load_right set x _ h.0 λ u i k.
      load_all_right xs c (i tid set) h.1 λ v j l.
      r v (and_more i j) (j (moved x) k, l)

  -- after the loads of expressions, these stand moved
  pub loads_right : (es : List Expr) {d : ℕ} {s : Known} (c : Block Plain) → s tid ≡ true → Each (Source n M) es
      → ((u : Known) → s ⊆ u → Each (λ e. Stands p n u (shift e)) es → Fine p here n d u c) → Fine p here n d s (loads G m n es c)
  loads_right es c set h r =
      load_all_right (variables 0 n es) c set (variables_below 0 n n es (omega arith)) λ u i k.
      r u i (loaded scene es u h (λ x l. variables_all (λ x. u (moved x) ≡ true) 0 n es k x (omega arith) (omega arith)))

  -- ---- instructions

  module _ {d : ℕ} {s : Known} (set : s tid ≡ true) where
    -- an assignment
    pub assigns_right : (x : ℕ) (e : Expr) (c : Block Plain) → x < n → Source n M e → Follows p here n d s c → Fine p here n d s (assigns G m n x e c)
    assigns_right x e c h src r =
        loads_right (e ∷ []) _ set (src, tt) λ u i g.
        put_right (i tid set) (G.home m x) (shift e) c (scene.home x h) g.0 λ v j.
        r v (and_more i j)

    -- a read
    pub reads_right : (x y : ℕ) (o : Expr) (c : Block Plain) → x < n → y < n → Source n M o → Follows p here n d s c
        → Fine p here n d s (reads G m n x y o c)
    reads_right x y o c h k src r =
        loads_right (o ∷ []) _ set (src, tt) λ u i g.
        load_right (i tid set) y _ k λ v j l.
        read_right (moved x) (moved y) (shift o) (omega arith) (omega arith) l (stands_more scene j g.0)
        (put_right (set_more v (moved x) tid (j tid (i tid set))) (G.home m x) (local (moved x)) c (scene.home x h)
        (local_given (moved x) (omega arith) (set_there v (moved x))) λ w q.
        r w (and_more i (and_more j (and_more (set_more v (moved x)) q))))

    -- a write
    pub writes_right : (y : ℕ) (o e : Expr) (c : Block Plain) → y < n → Source n M o → Source n M e → Follows p here n d s c
        → Fine p here n d s (writes G m n y o e c)
    writes_right y o e c h src val r =
        loads_right (e ∷ []) _ set (val, tt) λ u i g.
        loads_right (o ∷ []) _ (i tid set) (src, tt) λ v j f.
        load_right (j tid (i tid set)) y _ h λ w k l.
        write_right (moved y) (shift o) (shift e) (omega arith) l (stands_more scene k f.0) (stands_more scene (and_more j k) g.0)
        (r w (and_more i (and_more j k)))

  -- a branch of a test
  goto_right : {d : ℕ} {s : Known} → s tid ≡ true → s tmp ≡ true → (k : ℕ) → k < 2 ^ 31 → 1 ≤ d → Fine p here n d s (goto G m n k)
  goto_right {d} {s} set at k h deep =
      write_right tmp (local tid) (num k) (omega arith) at (local_given tid (omega arith) set) (num_given k h) (end_right deep)

  -- a test
  pub tests_right : {d : ℕ} {s : Known} → s tid ≡ true → (e : Expr) (l k : ℕ) → Source n M e → l < 2 ^ 31 → k < 2 ^ 31 → 1 ≤ d
      → Fine p here n (suc d) s (tests G m n e l k)
  tests_right {d} {s} set e l k src h j deep =
      loads_right (e ∷ []) _ set (src, tt) λ u i g.
      let v : Known = with u tmp in
      let on : v tid ≡ true = set_more u tmp tid (i tid set) in
      assign_right tmp (loc G.pct) (omega arith) (loc_given G.pct scene.pct)
      (if_right (shift e) (goto G m n l) (goto G m n k) (stands_more scene (set_more u tmp) g.0)
      (goto_right on (set_there u tmp) l h deep) (goto_right on (set_there u tmp) k j deep) (λ w _. end_right (omega arith)))

  -- arguments from parameter i on, into procedure q
  passes_right : (q : ℕ) (es : List Expr) (i : ℕ) {d : ℕ} {s : Known} (c : Block Plain) → s tid ≡ true → Each (λ e. Stands p n s (shift e)) es
      → ((j : ℕ) → j < i + length es → G.home q j < length p.sizes) → Follows p here n d s c → Fine p here n d s (passes G m n q i es c)
  passes_right q [] i c set g into r = r _ (λ x e. e)
  passes_right q (e ∷ es) i c set g into r =
      put_right set (G.home q i) (shift e) _ (into i (omega arith)) g.0 λ u k.
      passes_right q es (suc i) c (k tid set) (each_so (λ e. stands_more scene k) es g.1) (λ j l. into j (omega arith)) λ v l.
      r v (and_more k l)

  -- a call
  pub calls_right : {d : ℕ} {s : Known} → s tid ≡ true → (q : ℕ) (es : List Expr) (begin k : ℕ) → Each (Source n M) es
      → ((j : ℕ) → j < length es → G.home q j < length p.sizes) → G.from q < length p.sizes → begin < 2 ^ 31 → k < 2 ^ 31 → 1 ≤ d
      → Fine p here n d s (calls G m n q es begin k)
  calls_right set q es begin k src into back h j deep =
      loads_right es _ set src λ u i g.
      passes_right q es 0 _ (i tid set) g (λ j l. into j (omega arith)) λ v l.
      put_right (l tid (i tid set)) (G.from q) (num k) _ back (num_given k j) λ w r.
      pc_right (r tid (l tid (i tid set))) begin h deep

  -- an end label
  pub returns_right : {d : ℕ} {s : Known} → s tid ≡ true → 1 ≤ d → Fine p here n d s (returns G m n)
  returns_right {d} {s} set deep =
      let s₁ : Known = with s tmp in
      let s₂ : Known = with s₁ aux in
      let s₃ : Known = with s₂ tmp in
      let set₁ : s₁ tid ≡ true = set_more s tmp tid set in
      let set₃ : s₃ tid ≡ true = set_more s₂ tmp tid (set_more s₁ aux tid set₁) in
      assign_right tmp (loc (G.from m)) (omega arith) (loc_given (G.from m) scene.from)
      (read_right aux tmp (local tid) (omega arith) (omega arith) (set_there s tmp) (local_given tid (omega arith) set₁)
      (assign_right tmp (loc G.pct) (omega arith) (loc_given G.pct scene.pct)
      (write_right tmp (local tid) (local aux) (omega arith) (set_there s₂ tmp) (local_given tid (omega arith) set₃)
      (local_given aux (omega arith) (set_more s₂ tmp aux (set_there s₁ aux)))
      (end_right deep))))
