-- One step of a stack of frames: report RR-2017-03, figure 1. A frame holds its procedure, its locals and the code that remains.
use Rattle.std.specs.Prelude.{ℕ, ◌-◌, List, [], ◌∷◌, ◌++◌, map, Bool, false, length, replicate, eqb}
use Rattle.std.proofs.Math.Bool as B
use Rattle.value.specs.Maybe.{is, nothing, pick, either}
use Rattle.value.specs.Try.{Try, has, lacks, ◌⟫◌, provided, or_lacks}
use Rattle.value.specs.Lists.{at}
use Rattle.value.specs.declared.Value.{Value}
use Rattle.format.specs.Syntax.{local, Instr, assign, write, read, while, if, call, atomic, select, Block, end, step, ◌⊕◌, Proc}
use Rattle.semantics.specs.Memory.{Env, bound, eval, evals, index, Memory, cell, stored, reading, writing, Event}
use Rattle.value.specs.Values.{number, place, truth}
use Rattle.value.specs.declared.Reason.TheVariants.{WrongKind}

-- the report's frame: procedure, locals, and the code that remains
pub record Frame (A : Type 0) : Type 0 where
  pub proc : ℕ
  pub env : Env
  pub code : Block A

-- the report's stack of frames: the first one runs
abbrev pub Stack : Type 0 → Type 0
Stack A = List (Frame A)

-- what a step leaves
pub record Moved (A : Type 0) : Type 0 where
  pub stack : Stack A
  pub memory : Memory
  pub events : List Event

-- a frame of procedure m, with its arguments
abbrev pub entered : {A : Type 0} → ℕ → Proc A → List Value → Frame A
entered m p vs = record { proc = m; env = map is vs ++ replicate (p.locals - length vs) nothing; code = p.body }

-- a step without an event
abbrev pub quiet : {A : Type 0} → Stack A → Memory → Moved A
quiet s η = record { stack = s; memory = η; events = [] }

-- does procedure n run in the stack
abbrev pub runs : {A : Type 0} → ℕ → Stack A → Bool
runs n [] = false
runs n (f ∷ s) = either (eqb n f.proc) (runs n s)

module _ {A : Type 0} (procs : List (Proc A)) (t j : ℕ) where
  -- thread t, at label j: instruction i with tag a, first in procedure m, before c and above the frames s. Request #101: "a write judges the value, then the index
  -- expression, then the pointer, then the index against the size; a read does the same without a value; a call judges its arguments in order".
  -- A call has the report's condition that its procedure runs in no frame, which is never broken after rule 7; what the rules keep out gives 2
  abbrev pub instr : ℕ → Env → A → Instr A → Block A → Stack A → Memory → Try (Moved A)
  instr m ρ a (assign x e) c s η =
      eval ρ e ⟫ λ v.
      has (quiet (record { proc = m; env = bound ρ x v; code = c } ∷ s) η)
  instr m ρ a (write y o e) c s η =
      eval ρ e ⟫ λ v.
      eval ρ o ⟫ number ⟫ λ z.
      eval ρ (local y) ⟫ place ⟫ λ l.
      index z ⟫ λ i.
      cell η l i ⟫ λ _.
      has (record {
        stack = record { proc = m; env = ρ; code = c } ∷ s;
        memory = stored η l i v;
        events = record { thread = t; way = writing; place = l; index = i; value = v; label = j } ∷ [];
      })
  instr m ρ a (read x y o) c s η =
      eval ρ o ⟫ number ⟫ λ z.
      eval ρ (local y) ⟫ place ⟫ λ l.
      index z ⟫ λ i.
      cell η l i ⟫ λ v.
      has (record {
        stack = record { proc = m; env = bound ρ x v; code = c } ∷ s;
        memory = η;
        events = record { thread = t; way = reading; place = l; index = i; value = v; label = j } ∷ [];
      })
  instr m ρ a (while e b) c s η =
      eval ρ e ⟫ truth ⟫ λ q.
      has (quiet (record { proc = m; env = ρ; code = pick q (b ⊕ step a (while e b) c) c } ∷ s) η)
  instr m ρ a (if e b d) c s η =
      eval ρ e ⟫ truth ⟫ λ q.
      has (quiet (record { proc = m; env = ρ; code = pick q b d ⊕ c } ∷ s) η)
  instr m ρ a (call n es) c s η =
      evals ρ es ⟫ λ vs.
      or_lacks WrongKind (at procs n) ⟫ λ p.
      provided (B.not (either (eqb n m) (runs n s))) WrongKind
      (quiet (entered n p vs ∷ record { proc = m; env = ρ; code = c } ∷ s) η)
  instr m ρ a (atomic b) c s η = lacks WrongKind
  instr m ρ a (select x y) c s η = lacks WrongKind

  -- a stack that has code to run, or a frame to return from
  abbrev pub frame : Block A → ℕ → Env → Stack A → Memory → Try (Moved A)
  frame end m ρ s η = has (quiet s η)
  frame (step a i c) m ρ s η = instr m ρ a i c s η
