-- The copy of an accepted program is accepted, if its table is not too long.
use Rattle.std.specs.Prelude.{ℕ, zero, suc, ◌+◌, ◌^◌, ◌≤◌, ◌<◌, ◌≡◌, refl, List, [], ◌∷◌, length, ltb}
use Rattle.std.proofs.Common.{arith, subst}
use Rattle.value.specs.Maybe.{is}
use Rattle.value.specs.Lists.{at}
use Rattle.value.proofs.Laws.Tests.{pass_both}
use Rattle.value.proofs.Laws.Lists.{Each, each_so, each_append}
use Rattle.format.specs.Syntax.{Proc, Program, Plain, concurrent, sequential}
use Rattle.format.specs.Encode.{table, bodies_of}
use Rattle.format.specs.Labels.{count, counts, labels, label}
use Rattle.format.specs.Rules.{verdict, accepted, limits}
use Rattle.format.proofs.Laws.Bytes.{Bytes}
use Rattle.format.proofs.Laws.Names.{Takes}
use Rattle.format.proofs.Laws.Permits.{all_permitted?}
use Rattle.format.proofs.Laws.SetFirst.{set_first?}
use Rattle.format.proofs.Laws.Sound.{Sound}
use Rattle.format.proofs.Laws.Accepted.{accepted_of, accepted_exactly}
use Rattle.format.proofs.Laws.Procs.{takes_at, ProcSound, proc_sound}
use Rattle.format.specs.Decode.{max_nesting}
use Rattle.translation.specs.declared.Mode.{Mode}
use Rattle.translation.specs.Placement.{before, start_in, row_of}
use Rattle.translation.specs.Layout.{Layout, layout_by, sizes_by}
use Rattle.translation.specs.Translate.{each, simulations, interleavings, ends_of, begins, zeroth_by, later_by, translate_by, translate_in}
use Rattle.translation.proofs.Laws.Right.{Right}
use Rattle.translation.proofs.Laws.Pieces.{Scene, returns_right}
use Rattle.translation.proofs.Laws.Labelled.{Simulates, Callee, simulates, each_right}
use Rattle.translation.proofs.Laws.Rounds.{top, Stage, Main, After, interleavings_right}
use Rattle.translation.proofs.Laws.Places.{places_count, from_in, home_in, places_most, sizes_right, cells_right}
use Rattle.translation.proofs.Laws.Simulations.{length_simulations, end_below, first_most, takes_one, locals_right, bodies_right_lem, bodies_allowed}
use Rattle.translation.proofs.Laws.Simulations.{bodies_named, bodies_set, no_cycle_lem}
use Rattle.translation.proofs.Laws.Placing.Modes.{Placed, sound_placed, row_short}

module _ (q : Program Plain) (sound : Sound concurrent q) (start : ℕ → ℕ) (R : ℕ) (D : Placed q.procs start R)
    (short : R ≤ before q.procs (length q.procs)) where
  -- where the copy keeps what
  abbrev G : Layout
  G = layout_by start q

  -- the copy
  abbrev copy : Program Plain
  copy = translate_by G (sizes_by R q) q

  -- its procedures for labels
  abbrev later : List (Proc Plain)
  later = later_by G q

  -- ---- what the pieces ask of the copy

  -- a label is a small number
  label_small : (k : ℕ) → k ≤ 1 + counts q.procs → k < 2 ^ 31
  label_small k h = omega (arith, sound.labels)

  -- so is an end label
  end_small : (m : ℕ) → ends_of q m < 2 ^ 31
  end_small m = label_small (ends_of q m) (end_below q.procs 1 m)

  -- and the one that a procedure begins with
  begin_small : (m : ℕ) → begins q m < 2 ^ 31
  begin_small m = label_small (begins q m) (first_most q.procs (ends_of q m) 1 m (1 + counts q.procs) (end_below q.procs 1 m) (omega arith))

  -- the locations of a procedure are there
  scene : (m : ℕ) (f : Proc Plain) → (at q.procs m ≡ is f) → Scene copy G m f.locals (length q.sizes)
  scene m f e = record {
    few = (proc_sound sound m f e).locals;
    more = omega (arith, places_count q start R D short);
    pct = omega (arith, places_count q start R D short);
    from = from_in q start R D short m f e;
    home = home_in q start R D short m f e;
  }

  -- those of a procedure that is called too
  callee : (c a : ℕ) → Takes q.procs c a → Callee copy G (begins q) c a
  callee c a e =
      let found : (f : Proc Plain) × (at q.procs c ≡ is f) × (f.params ≡ a) = takes_at q.procs c a e in
      let f : Proc Plain = found.0 in
      record {
        home = λ x h. home_in q start R D short c f found.1 x (omega (arith, found.2, (proc_sound sound c f found.1).params));
        from = from_in q start R D short c f found.1;
        start = begin_small c;
      }

  -- ---- the procedures that simulate labels

  -- a number written otherwise
  moved : (i j : ℕ) (f : Proc Plain) → i ≡ j → (at q.procs i ≡ is f) → (at q.procs j ≡ is f)
  moved i j f e here = subst (λ k. at q.procs k ≡ is f) e here

  -- the procedures of the labels from l on, of the source from m on
  simulations_right : (ps : List (Proc Plain)) (l m : ℕ) → ((j : ℕ) (f : Proc Plain) → at ps j ≡ is f → (at q.procs (m + j) ≡ is f))
      → l + counts ps < 2 ^ 31
      → Each (Simulates copy) (simulations G (begins q) (ends_of q) m (labels l ps))
  simulations_right [] l m sub room = tt
  simulations_right (f ∷ ps) l m sub room =
      let found : (at q.procs m ≡ is f) = moved (m + 0) m f (omega arith) (sub 0 f refl) in
      let next : ℕ = l + suc (count f.body) in
      let source : ProcSound concurrent q m f = proc_sound sound m f found in
      each_append (Simulates copy) (each G (begins q) m f.locals (label l f.body) (ends_of q m)) _
      (each_right q (scene m f found) (begins q) callee f.body l (ends_of q m)
      source.body.exprs source.named source.body.deep (omega arith)
      (end_small m)) (
        simulates q (scene m f found) (begins q) callee _ (λ here. returns_right (scene m f found) refl (omega arith)),
        simulations_right ps next (suc m) (λ j g i. moved (m + suc j) (suc m + j) g (omega arith) (sub (suc j) g i)) (omega arith),
      )

  -- all of them
  sims : Each (Simulates copy) later
  sims = simulations_right q.procs 1 0 (λ j f e. moved j (0 + j) f (omega arith) e) (omega (arith, sound.labels))

  -- ---- procedure 0

  -- as many as labels
  count_sims : length later ≡ counts q.procs
  count_sims = length_simulations G (begins q) (ends_of q) q.procs 1 0

  -- what procedure 0 asks is there
  stage : Stage copy G (begins q) (counts q.procs)
  stage = record {
    ptid = omega (arith, places_count q start R D short);
    pct = omega (arith, places_count q start R D short);
    labels = sound.labels;
    callee = called;
  }
    where
      called : (l : ℕ) → 1 ≤ l → l ≤ counts q.procs → Takes copy.procs l 1
      called zero low high = absurd (omega arith)
      called (suc l) low high = takes_one copy later l sims (omega (arith, count_sims))

  -- and what it asks of each main
  mains_right : Each (Main copy G (begins q)) q.mains
  mains_right = each_so main q.mains sound.mains
    where
      main : (m : ℕ) → Takes q.procs m 0 → Main copy G (begins q) m
      main m e = let found : Callee copy G (begins q) m 0 = callee m 0 e in record { from = found.from; start = found.start }

  -- so it is right
  first_right : Right copy 4 top After max_nesting (λ x. ltb x 0) (interleavings G (begins q) q.mains (counts q.procs))
  first_right = interleavings_right stage q.mains mains_right (omega (arith, sound.threads.high)) (omega arith) (λ x. ltb x 0)

  -- ---- all together

  -- the copy keeps each rule
  pub copy_sound : length (table sequential copy) ≤ (limits sequential).bytes → Sound sequential copy
  copy_sound fits = record {
    size = fits;
    procs = record { low = omega arith; high = omega (arith, count_sims, sound.labels) };
    places = places_most q start R D short sound;
    threads = omega arith;
    locals = (omega arith, locals_right copy later sims);
    sizes = sizes_right q start R D short sound;
    cells = cells_right q start R D short sound;
    mains = (refl, tt);
    bodies = (record { deep = first_right.deep; exprs = first_right.exprs }, bodies_right_lem copy later sims);
    allowed =
        (all_permitted? sequential 0 (bodies_of copy.procs)).so
        (pass_both first_right.allowed (bodies_allowed copy 1 later sims));
    named = (first_right.named, bodies_named copy later sims);
    labels = tt;
    calls = no_cycle_lem copy (zeroth_by G q) later sims first_right.calls;
    set = (set_first? copy).so (pass_both first_right.set (bodies_set copy later sims));
  }

-- THE COPY OF AN ACCEPTED TABLE IS ACCEPTED, AS THE COPY, IF ITS TABLE IS NOT TOO LONG: in both modes.
pub copy_accepted : (mode : Mode) (t : List ℕ) → Bytes t → (q : Program Plain) → verdict concurrent t ≡ accepted q
    → length (table sequential (translate_in mode q)) ≤ (limits sequential).bytes
    → verdict sequential (table sequential (translate_in mode q)) ≡ accepted (translate_in mode q)
copy_accepted mode t h q e short =
    let sound : Sound concurrent q = ((accepted_exactly concurrent t h q).0 e).1 in
    accepted_of sequential (translate_in mode q)
    (copy_sound q sound (start_in mode q.procs) (row_of mode q.procs) (sound_placed mode q sound)
    (row_short mode q.procs sound.calls) short)
