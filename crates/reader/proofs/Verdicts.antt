-- One law for each way through rules 5 to 8, one after the other.
use Prim.Native.Nat.{ℕ, ◌≤◌, ◌<◌}
use native.Mathlib.Omega.{arith}
use mathlib.Core.Path.{◌≡◌, refl, sym, ap, subst, ◌∙◌}
use mathlib.Core.List.{List}
use mathlib.Core.Bool.{Bool, true, false}
use lib.ListN.{get_or}
use mir.Syntax.{w8}
use mir.Val.{Fits}
use lib.Dec.{leb}
use borrow.Author.Tests.{le-leb, lt-leb}
use Rattle.value.proofs.Laws.Bytes.{Bytes, bytes_at}
use Rattle.format.specs.Syntax.{Program, Plain, Kind, concurrent, sequential}
use Rattle.format.specs.Rules.{all_named, few_labels, no_cycle, set_first, accepted, max_labels}
use Rattle.format.specs.Calls.{labels_of, read_as}
use Rattle.shape.specs.Shapes.{ShapedAs, HasShape, FormFor, FormIs, LabelsAre}
use Rattle.reader.specs.Answers.{Answers, answer_of}
use Rattle.std.specs.Prelude.{Result, Ok, Err}
use Rattle.basics.specs.declared.refusals.Refusal.{Refusal}
use Rattle.basics.specs.declared.refusals.Refusal.TheVariants.{Names, Labels, Cycle, Unset}
use Rattle.format.proofs.Laws.Passes.{at_most}
use Rattle.format.proofs.Laws.TablePlaces.{trailer_at}
use Rattle.scan.specs.Laws.Laid.{Laid, Named, Room, Judges}
use Rattle.scan.specs.Laws.NameScans.{Counted}
use Rattle.scan.specs.Laws.LabelScans.{CountsLabels}
use Rattle.shape.proofs.Rule3.{is_concurrent_lem, is_sequential}
use Rattle.shape.specs.declared.form.Shape.{Shape}
use Rattle.reader.specs.declared.verdict.Counts.{Counts}

-- rule 6, by the number of labels
few_labels_lem : (k : Kind) (p : Program Plain) → few_labels k p ≡ leb (labels_of k p) max_labels
few_labels_lem concurrent p = refl
few_labels_lem sequential p = refl

module _ {k : Kind} {t : List ℕ} {s : Shape} {p : Program Plain} (shaped : ShapedAs k t s p) where
  -- as the code of rules 5 to 8 knows it
  laid : Laid t s.procedures s.records p
  laid = record { kind = k; formed = shaped.formed; procs = shaped.procedures; records = shaped.records }

  -- the records are in the table
  pub shape_room : Room t s.procedures s.records
  shape_room = record {
    few = omega (arith, shaped.procedures, shaped.formed.procs.high, (at_most k).procs);
    room = omega (arith, trailer_at k p shaped.formed.same, shaped.procedures, shaped.records);
    size = omega (arith, shaped.formed.size, (at_most k).bytes);
  }

  -- ---- the number of labels

  -- those of a concurrent program
  pub labels_counted : {n : ℕ} → k ≡ concurrent → CountsLabels t s.procedures s.records n → LabelsAre k t s n
  labels_counted e C = record {
    same = λ q other. rw e (C.gives q (record { kind = k; formed = other.formed; procs = other.procedures; records = other.records }));
  }

  -- a sequential one has none
  pub labels_none : k ≡ sequential → LabelsAre k t s 0
  labels_none e = record { same = λ q other. rw e }

  -- ---- the rules

  -- 5
  pub names_wrong : {b : Bool} → Judges (Counted t s.procedures s.locations s.records) all_named b → b ≡ false → Answers k t (Err Names)
  names_wrong J e = record {
    same = sym (ap (read_as k) shaped.verdict ∙ rw (← J.gives p (record { laid = laid; places = shaped.locations }), e));
  }

  module _ {b : Bool} (J : Judges (Counted t s.procedures s.locations s.records) all_named b) (names : b ≡ true) {n : ℕ}
      (L : LabelsAre k t s n) where
    named : all_named p ≡ true
    named = sym (J.gives p (record { laid = laid; places = shaped.locations })) ∙ names

    -- 6
    pub labels_over : max_labels < n → Answers k t (Err Labels)
    labels_over h = record {
      same = sym (ap (read_as k) shaped.verdict ∙ rw (named, few_labels_lem k p, ← L.same p shaped, lt-leb n max_labels h));
    }

    module _ (labels : n ≤ max_labels) {c : Bool} (C : Judges (Named t s.procedures s.records) no_cycle c) where
      few : few_labels k p ≡ true
      few = few_labels_lem k p ∙ rw (← L.same p shaped) (le-leb n max_labels labels)

      -- rule 7, as it was judged
      called : no_cycle p ≡ c
      called = sym (C.gives p (record { laid = laid; named = named }))

      -- 7
      pub cycle_found : c ≡ false → Answers k t (Err Cycle)
      cycle_found e = record { same = sym (ap (read_as k) shaped.verdict ∙ rw (named, few, called, e)) }

      -- what is answered of p
      abbrev counts : Counts
      counts = record { procedures = s.procedures; locations = s.locations; threads = s.threads; labels = n; cells = s.cells }

      -- as the paper answers it
      counted : read_as k (accepted p) ≡ answer_of (Ok counts)
      counted = λ i. record {
        number = 0;
        procedures = sym shaped.procedures i;
        locations = sym shaped.locations i;
        threads = sym shaped.threads i;
        labels = sym (L.same p shaped) i;
        cells = sym shaped.cells i;
      }

      module _ (calls : c ≡ true) {d : Bool} (D : Judges (Named t s.procedures s.records) set_first d) where
        set : set_first p ≡ d
        set = sym (D.gives p (record { laid = laid; named = named }))

        -- 8
        pub not_set : d ≡ false → Answers k t (Err Unset)
        not_set e = record { same = sym (ap (read_as k) shaped.verdict ∙ rw (named, few, called, calls, set, e)) }

        -- accepted
        pub all_right : d ≡ true → Answers k t (Ok counts)
        all_right e = record {
          same = sym (ap (read_as k) shaped.verdict ∙ rw (named, few, called, calls, set, e) counted);
        }

-- one law for each way
pub ruleset verdict_ways = (
  is_concurrent_lem,
  is_sequential,
  labels_counted,
  labels_none,
  names_wrong,
  labels_over,
  cycle_found,
  not_set,
  all_right,
)

-- ---- rules 1 to 4 first

module _ (k : Kind) (t : List ℕ) (h : Bytes t) {f : Result Shape Refusal} (F : FormIs k t f) where
  -- refused by one of them
  pub read_refused : {e : Refusal} → f ≡ Err e → Answers k t (Err e)
  read_refused e = record { same = sym (ap (read_as k) (subst (FormFor k t) e (F.gives h))) }

  -- let through by all
  pub read_shaped : {s : Shape} → f ≡ Ok s → HasShape k t s
  read_shaped e = subst (FormFor k t) e (F.gives h)

-- a slice of bytes is bytes
pub slice_bytes : (t : List ℕ) → ((i : ℕ) → Fits w8 (get_or t i 0)) → Bytes t
slice_bytes t h = bytes_at t (λ i l. omega (arith, h i))

-- one law for each way
pub ruleset read_ways = (read_refused, read_shaped, slice_bytes)
