-- Carrying out a step that was decided, way by way.
use Prim.Native.Nat.{ℕ, ◌+◌, ◌<◌}
use native.Mathlib.Omega.{arith}
use mathlib.Core.Path.{◌≡◌, refl, ap, subst}
use mathlib.Core.List.{List}
use mathlib.Core.Bool.{true, false}
use lib.ListN.{length, length-set}
use Rattle.value.specs.Maybe.{is}
use Rattle.value.specs.declared.Reason.{Reason}
use Rattle.value.specs.declared.Reason.TheVariants.{WrongKind}
use Rattle.value.specs.declared.Value.{Value}
use Rattle.decide.specs.declared.step.Step.{Step}
use Rattle.decide.specs.declared.step.Step.TheVariants as S
use Rattle.std.specs.Prelude.{Result, Ok, Err, IsErrAnd}
use Rattle.atomic.specs.declared.block.Done.{Done}
use Rattle.semantics.specs.Memory.{bound}
use Rattle.engine.specs.Work.{Puts}
use Rattle.engine.specs.Events.{event_of, with_event}
use Rattle.atomic.specs.Doing.{Works, to, stops, goes, StepFits, Carrying, Carries}
use Rattle.semantics.proofs.Laws.Cells.{shape_stored}
use Rattle.engine.specs.Laws.Work.{framed_get, framed_put, beside_put, beside_same}
use Rattle.engine.specs.Laws.Holding.{cell_word, holds_put}
use Rattle.engine.specs.Laws.Logging.{logged_more}
use Rattle.atomic.specs.Laws.Threading.{beside_wide}

-- what a `?` hands on is the reason that it was given
pub handed_on : {T E : Type 0} {why : E} (r : Result T E) → IsErrAnd r (λ y. y ≡ why) → r ≡ Err why
handed_on (Ok x) h = absurd h
handed_on (Err y) h = ap Err h

-- an end is no block
pub never_blocked : {G : Type 0} {d : Done} {q : Reason} → ◌≡◌ {A = Result Done Reason} (Ok d) (Err q) → G
never_blocked e = let z : ◌≡◌ {A = ℕ} 0 1 = cc in absurd (omega arith)

module _ {fb : ℕ} {s : Step} {ls cs o : List ℕ} {n : ℕ} where
  -- the step fits, whatever it is
  fitting : {u : Step} → s ≡ u → (h : Carrying fb s ls cs o n) → StepFits h.a u
  fitting e h = subst (StepFits h.a) e h.fits

  -- a local has its word
  pub assign_room : {x : ℕ} {v : Value} {j : ℕ} → s ≡ S.Assign x v j → Carrying fb s ls cs o n → fb + x < length ls
  assign_room {x} e h = (framed_get h.works.framed x (fitting e h)).0

  pub read_room : {x l i : ℕ} {v : Value} {j : ℕ} → s ≡ S.Read x l i v j → Carrying fb s ls cs o n → fb + x < length ls
  read_room {x} e h = (framed_get h.works.framed x (fitting e h)).0

  -- a cell has its word
  pub write_room : {l i k : ℕ} {v : Value} {j : ℕ} → s ≡ S.Write l i k v j → Carrying fb s ls cs o n → k < length cs
  write_room e h = cell_word h.works.holds (fitting e h)

  -- an assignment
  pub carries_assign : {thread label x : ℕ} {v : Value} {j : ℕ} {ls' : List ℕ} → s ≡ S.Assign x v j → Puts ls ls' (fb + x) v
      → Carries thread label fb s ls cs o n ls' cs o (to j n)
  carries_assign {x = x} {v} {j} e p = rw e (record {
    carries = λ h i l.
        let w : Works fb h.bs h.es ls cs o n h.a = h.works in
        let same : length (bound h.a.env x v) ≡ length h.a.env = length-set h.a.env x (is v) in
        goes _ n refl refl (record {
          works = record {
            framed = framed_put w.framed h.fits p;
            room = omega (arith, w.room, (beside_put p).long);
            small = omega (arith, w.small);
            holds = w.holds;
            bases = w.bases;
            logged = w.logged;
          };
          same = same;
          beside = beside_wide (beside_put p) (omega arith) (omega (arith, h.fits, w.small));
          few = omega arith;
        });
    still = λ q e. never_blocked e;
  })

  -- a read
  pub carries_read : {thread label x l i : ℕ} {v : Value} {j : ℕ} {ls' o' : List ℕ} → s ≡ S.Read x l i v j → Puts ls ls' (fb + x) v
      → o' ≡ with_event o n (event_of (record { thread = thread; writes = false; location = l; index = i; value = v; label = label }))
      → Carries thread label fb s ls cs o n ls' cs o' (to j (n + 1))
  carries_read {x = x} {v = v} e p q = rw e (record {
    carries = λ h i l.
        let w : Works fb h.bs h.es ls cs o n h.a = h.works in
        let same : length (bound h.a.env x v) ≡ length h.a.env = length-set h.a.env x (is v) in
        goes _ (n + 1) refl refl (record {
          works = record {
            framed = framed_put w.framed h.fits p;
            room = omega (arith, w.room, (beside_put p).long);
            small = omega (arith, w.small);
            holds = w.holds;
            bases = w.bases;
            logged = logged_more _ w.logged q;
          };
          same = same;
          beside = beside_wide (beside_put p) (omega arith) (omega (arith, h.fits, w.small));
          few = omega arith;
        });
    still = λ q e. never_blocked e;
  })

  -- a write
  pub carries_write : {thread label l i k : ℕ} {v : Value} {j : ℕ} {cs' o' : List ℕ} → s ≡ S.Write l i k v j → Puts cs cs' k v
      → o' ≡ with_event o n (event_of (record { thread = thread; writes = true; location = l; index = i; value = v; label = label }))
      → Carries thread label fb s ls cs o n ls cs' o' (to j (n + 1))
  carries_write {l = l} {i} {v = v} e p q = rw e (record {
    carries = λ h b m.
        let w : Works fb h.bs h.es ls cs o n h.a = h.works in
        goes _ (n + 1) refl refl (record {
          works = record {
            framed = w.framed;
            room = w.room;
            small = w.small;
            holds = holds_put w.holds h.fits p;
            bases = rw (shape_stored h.a.memory l i v) w.bases;
            logged = logged_more _ w.logged q;
          };
          same = refl;
          beside = beside_same;
          few = omega arith;
        });
    still = λ q e. never_blocked e;
  })

-- a step that blocks
pub carries_blocked : {thread label fb : ℕ} {s : Step} {ls cs o : List ℕ} {n : ℕ} {q : Reason} → s ≡ S.Blocked q → Carries thread label fb s ls cs o n ls cs o (Err q)
carries_blocked {q = q} e = rw e (record { carries = λ w i l. stops q refl refl; still = λ q e. (refl, refl, refl) })

module _ {thread label fb : ℕ} {ls cs o : List ℕ} {n : ℕ} where
  -- no other step is carried out
  other_blocks : (s : Step) → ((x : ℕ) (v : Value) (j : ℕ) → s ≡ S.Assign x v j → ⊥) → ((x l i : ℕ) (v : Value) (j : ℕ) → s ≡ S.Read x l i v j → ⊥)
      → ((l i k : ℕ) (v : Value) (j : ℕ) → s ≡ S.Write l i k v j → ⊥) → ((q : Reason) → s ≡ S.Blocked q → ⊥)
      → Carries thread label fb s ls cs o n ls cs o (Err WrongKind)
  other_blocks S.Return a r w b = record { carries = λ h i l. stops WrongKind refl refl; still = λ q e. (refl, refl, refl) }
  other_blocks (S.Assign x v j) a r w b = absurd (a x v j refl)
  other_blocks (S.Read x l i v j) a r w b = absurd (r x l i v j refl)
  other_blocks (S.Write l i k v j) a r w b = absurd (w l i k v j refl)
  other_blocks (S.Test q j) a r w b = record { carries = λ h i l. stops WrongKind refl refl; still = λ q e. (refl, refl, refl) }
  other_blocks (S.Call m j) a r w b = record { carries = λ h i l. stops WrongKind refl refl; still = λ q e. (refl, refl, refl) }
  other_blocks (S.Select k u j) a r w b = record { carries = λ h i l. stops WrongKind refl refl; still = λ q e. (refl, refl, refl) }
  other_blocks (S.Blocked q) a r w b = absurd (b q refl)

  -- so it blocks
  pub carries_other : {s : Step} → ((x : ℕ) (v : Value) (j : ℕ) → s ≡ S.Assign x v j → ⊥) → ((x l i : ℕ) (v : Value) (j : ℕ) → s ≡ S.Read x l i v j → ⊥)
      → ((l i k : ℕ) (v : Value) (j : ℕ) → s ≡ S.Write l i k v j → ⊥) → ((q : Reason) → s ≡ S.Blocked q → ⊥)
      → Carries thread label fb s ls cs o n ls cs o (Err WrongKind)
  carries_other {s} = other_blocks s

-- one law for each way
pub ruleset carry_ways = (assign_room, read_room, write_room, carries_assign, carries_read, carries_write, carries_blocked, carries_other)
