-- What the copy keeps for one thread. Its column of memory gives, for each location, the cell at the thread's index.
use Rattle.std.specs.Prelude.{ℕ, ◌<◌, ◌≡◌, refl, [], ◌∷◌, true, false, length, pos, eqb}
use Rattle.std.proofs.Common.{◌∙◌, eq-eqb}
use Rattle.value.specs.Maybe.{is}
use Rattle.value.specs.Try.{Try, has}
use Rattle.value.specs.declared.Value.{Value}
use Rattle.value.specs.declared.Value.TheVariants.{Whole}
use Rattle.value.proofs.Laws.Tests.{either_left, either_right}
use Rattle.translation.specs.Layout.{Layout}
use Rattle.semantics.specs.Memory.{Env, lookup}
use Rattle.semantics.specs.Step.{Stack, runs}
use Rattle.semantics.proofs.Laws.Cells.{lookup_below}

-- a thread's cell of each location
abbrev pub Column : Type 0
Column = ℕ → Try Value

-- a number in a cell
abbrev pub number : ℕ → Try Value
number n = has (Whole (pos n))

module _ (G : Layout) (N : ℕ) (L : ℕ → ℕ) (label : Stack ℕ → ℕ) where
  -- a frame of procedure m with locals ρ above the frames s: each local that is set is in its home, and the label to
  -- return to in the procedure's "from"
  pub record Kept (look : Column) (m : ℕ) (ρ : Env) (s : Stack ℕ) : Type 0 where
    pub proc : m < N
    pub full : length ρ ≡ L m
    pub once : runs m s ≡ false
    pub held : (x : ℕ) (v : Value) → lookup ρ x ≡ is v → look (G.home m x) ≡ has v
    pub back : look (G.from m) ≡ number (label s)

  -- so for each frame of a stack
  abbrev pub AllKept : Column → Stack ℕ → Type 0
  AllKept look [] = Unit {0}
  AllKept look (f ∷ s) = Kept look f.proc f.env s × AllKept look s

  -- two columns agree on what procedure m has
  pub record Alike (look look' : Column) (m : ℕ) : Type 0 where
    pub from : look' (G.from m) ≡ look (G.from m)
    pub home : (x : ℕ) → x < L m → look' (G.home m x) ≡ look (G.home m x)

  -- a frame that is kept is kept in a column that is alike
  pub kept_alike : {look look' : Column} {m : ℕ} {ρ : Env} {s : Stack ℕ} → Alike look look' m → Kept look m ρ s → Kept look' m ρ s
  kept_alike {look} {look'} {m} {ρ} {s} a k = record {
    proc = k.proc;
    full = k.full;
    once = k.once;
    held = λ x v e. a.home x (rw k.full at (lookup_below ρ x e)) ∙ k.held x v e;
    back = a.from ∙ k.back;
  }

  -- frames are kept in any column that is alike on their procedures
  pub all_alike : {look look' : Column} (s : Stack ℕ) → ((m : ℕ) → m < N → runs m s ≡ true → Alike look look' m) → AllKept look s → AllKept look' s
  all_alike [] h ks = tt
  all_alike (f ∷ s) h ks = (
    kept_alike (h f.proc ks.0.proc (either_left (runs f.proc s) (eq-eqb f.proc f.proc refl))) ks.0,
    all_alike s (λ m below e. h m below (either_right (eqb m f.proc) e)) ks.1,
  )
