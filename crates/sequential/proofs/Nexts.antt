-- One step of the definition, instruction by instruction: what it leaves, or how the run ends there.
use Prim.Native.Nat.{ℕ}
use mathlib.Core.Path.{◌≡◌}
use mathlib.Core.List.{List, [], ◌∷◌, ◌++◌}
use mathlib.Core.Bool.{Bool, true, false}
use lib.Dec.{ltb}
use lib.IntN.{pos}
use Rattle.value.specs.Maybe.{is, pick}
use Rattle.value.specs.Try.{has, ◌⟫◌}
use Rattle.value.specs.Lists.{at}
use Rattle.value.specs.declared.Value.{Value}
use Rattle.value.specs.declared.Value.TheVariants.{Whole}
use Rattle.format.specs.Syntax.{Expr, local, assign, write, read, while, if, call, select, Block, end, step, ◌⊕◌, Proc, Plain}
use Rattle.semantics.specs.Memory.{bound, eval, evals, cell, stored, reading, writing, Event}
use Rattle.value.specs.Values.{number, place, truth}
use Rattle.semantics.specs.Step.{Frame, Stack, entered, runs}
use Rattle.semantics.specs.Threads.{finished, used}
use Rattle.semantics.specs.Copy as C

-- a configuration with another stack
abbrev pub restacked : C.Config → Stack Plain → C.Config
restacked c s = record { stack = s; memory = c.memory; todo = c.todo; last = c.last; events = c.events }

-- a frame that goes on with other code
abbrev pub recoded : Frame Plain → Block Plain → Frame Plain
recoded f b = record { proc = f.proc; env = f.env; code = b }

-- and with a local set
abbrev pub rebound : Frame Plain → ℕ → Value → Block Plain → Frame Plain
rebound f x v b = record { proc = f.proc; env = bound f.env x v; code = b }

-- the event of a cell, in procedure m
abbrev pub event_at : C.Config → ℕ → Bool → ℕ → ℕ → Value → Event
event_at c m true l i v = record { thread = c.last; way = writing; place = l; index = i; value = v; label = m }
event_at c m false l i v = record { thread = c.last; way = reading; place = l; index = i; value = v; label = m }

-- the events after it
abbrev pub events_with : ℕ → C.Config → Event → List Event
events_with h c e = pick (ltb e.place h) (c.events ++ (e ∷ [])) c.events

module _ (h : ℕ) (procs : List (Proc Plain)) (c : C.Config) where
  -- no frame is left
  pub next_none : c.stack ≡ [] → C.next h procs c ≡ C.ended finished
  next_none e = rw e

  module _ {f : Frame Plain} {s : Stack Plain} (e : c.stack ≡ f ∷ s) where
    -- return
    pub next_return : f.code ≡ end → C.next h procs c ≡ C.goes (restacked c s)
    next_return q = rw (e, q)

    -- x := e
    pub next_assign : {x : ℕ} {a : Expr} {b : Block Plain} {v : Value} → f.code ≡ step tt (assign x a) b → eval f.env a ≡ has v
        → C.next h procs c ≡ C.goes (restacked c (rebound f x v b ∷ s))
    next_assign q w = rw (e, q, w)

    -- x := y[o]
    pub next_read : {x y : ℕ} {o : Expr} {b : Block Plain} {i l : ℕ} {v : Value} → f.code ≡ step tt (read x y o) b
        → (eval f.env o ⟫ number) ≡ has (pos i) → (eval f.env (local y) ⟫ place) ≡ has l → cell c.memory l i ≡ has v
        → C.next h procs c ≡ C.goes (record {
          stack = rebound f x v b ∷ s;
          memory = c.memory;
          todo = c.todo;
          last = c.last;
          events = events_with h c (event_at c f.proc false l i v);
        })
    next_read q u w z = rw (e, q, u, w, z)

    -- y[o] := e
    pub next_write : {y : ℕ} {o a : Expr} {b : Block Plain} {i l : ℕ} {v u : Value} → f.code ≡ step tt (write y o a) b → eval f.env a ≡ has v
        → (eval f.env o ⟫ number) ≡ has (pos i) → (eval f.env (local y) ⟫ place) ≡ has l → cell c.memory l i ≡ has u
        → C.next h procs c ≡ C.goes (record {
          stack = recoded f b ∷ s;
          memory = stored c.memory l i v;
          todo = c.todo;
          last = c.last;
          events = events_with h c (event_at c f.proc true l i v);
        })
    next_write q r u w z = rw (e, q, r, u, w, z)

    -- while
    pub next_while : {a : Expr} {w b : Block Plain} {q : Bool} → f.code ≡ step tt (while a w) b → (eval f.env a ⟫ truth) ≡ has q
        → C.next h procs c ≡ C.goes (restacked c (recoded f (pick q (w ⊕ step tt (while a w) b) b) ∷ s))
    next_while q u = rw (e, q, u)

    -- if
    pub next_if : {a : Expr} {y n b : Block Plain} {q : Bool} → f.code ≡ step tt (if a y n) b → (eval f.env a ⟫ truth) ≡ has q
        → C.next h procs c ≡ C.goes (restacked c (recoded f (pick q y n ⊕ b) ∷ s))
    next_if q u = rw (e, q, u)

    -- call
    pub next_call : {m : ℕ} {es : List Expr} {b : Block Plain} {vs : List Value} {p : Proc Plain} → f.code ≡ step tt (call m es) b
        → evals f.env es ≡ has vs → at procs m ≡ is p → runs m (f ∷ s) ≡ false
        → C.next h procs c ≡ C.goes (restacked c (entered m p vs ∷ recoded f b ∷ s))
    next_call q u w z = rw (e, q, u, w, z)

    -- select
    pub next_select : {a d t : ℕ} {ts : List ℕ} {b : Block Plain} {v : Value} → f.code ≡ step tt (select a d) b → c.todo ≡ t ∷ ts
        → (cell c.memory d t ⟫ C.running) ≡ has v
        → C.next h procs c ≡ C.goes (record {
          stack = recoded f b ∷ s;
          memory = stored c.memory a 0 (Whole (pos t));
          todo = ts;
          last = t;
          events = c.events;
        })
    next_select q u w = rw (e, q, u, w)

    -- select, and no entry is left
    pub next_used : {a d : ℕ} {b : Block Plain} → f.code ≡ step tt (select a d) b → c.todo ≡ [] → C.next h procs c ≡ C.ended used
    next_used q u = rw (e, q, u)
