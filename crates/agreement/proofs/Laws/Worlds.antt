-- A program that passes the rules, and its translation, are a world: what the simulation asks of the two, wherever the locals are placed.
use Rattle.std.specs.Prelude.{ℕ, zero, suc, ◌+◌, ◌≤◌, ◌≡◌, refl, List, [], ◌∷◌, length, ltb}
use Rattle.std.proofs.Common.{arith, sym, ap, ◌∙◌, length-append}
use Rattle.value.specs.Maybe.{is}
use Rattle.value.specs.Lists.{at}
use Rattle.value.proofs.Laws.Maybes.{is_inj, missing}
use Rattle.value.proofs.Laws.Lists.{at_below}
use Rattle.format.specs.Syntax.{Proc, Program, Plain, concurrent}
use Rattle.format.specs.Encode.{block, table, front, trailer, trailer_of}
use Rattle.format.specs.Labels.{counts, labels, labelled, first, end_of}
use Rattle.format.proofs.Laws.Names.{names?}
use Rattle.format.proofs.Laws.Sound.{Sound}
use Rattle.format.proofs.Laws.Procs.{ProcSound, proc_sound, main_at, body_in_table}
use Rattle.format.proofs.Laws.Labelled.{reaches_labels, labels_at, named_label, allowed_label, after_label, block_label}
use Rattle.translation.specs.Placement.{locals_of}
use Rattle.translation.specs.Layout.{Layout, layout_by, sizes_by}
use Rattle.translation.specs.Translate.{simulations, body_of, begin_of, translate_by}
use Rattle.translation.proofs.Laws.Placing.Modes.{Placed}
use Rattle.translation.proofs.Laws.Apart.{private, apart, rows}
use Rattle.translation.proofs.Laws.Simulations.{length_simulations}
use Rattle.agreement.proofs.Laws.Reps.{Setting}
use Rattle.agreement.proofs.Laws.Frames.{World, Entry, plain}
use Rattle.agreement.proofs.Laws.Round.{Zeroth}
use Rattle.agreement.proofs.Laws.Start.{Startable}
use Rattle.agreement.proofs.Laws.Fresh.{fresh_first}
use Rattle.agreement.proofs.Laws.Numbers.{Numbered, numbered, coded_each}

-- the body of procedure m
body_at_lem : (ps : List (Proc ℕ)) (m : ℕ) {q : Proc ℕ} → at ps m ≡ is q → body_of ps m ≡ q.body
body_at_lem [] m e = missing e
body_at_lem (p ∷ ps) zero {q} e = let s : p ≡ q = is_inj e in rw s
body_at_lem (p ∷ ps) (suc m) e = body_at_lem ps m e

-- the copy of p, where the locals of each procedure begin at start in a row of R
abbrev pub copy_by : Program Plain → (ℕ → ℕ) → ℕ → Program Plain
copy_by p start R = translate_by (layout_by start p) (sizes_by R p) p

module _ (p : Program Plain) (start : ℕ → ℕ) (R : ℕ) (D : Placed p.procs start R) where
  -- where the copy of p keeps what
  abbrev G : Layout
  G = layout_by start p

  -- the copy of p
  abbrev copy : Program Plain
  copy = copy_by p start R

  -- all of it
  abbrev pub setting : Setting
  setting = record {
    h = length p.sizes;
    G = G;
    N = length p.procs;
    L = λ m. locals_of (at p.procs m);
    T = length p.mains;
    Z = sizes_by R p;
    ends = end_of 1 p.procs;
    private = private p start R D;
    program = p.procs;
    apart = apart p start R D;
    rows = rows p start R D;
  }

  -- where procedures begin
  abbrev pub begin : ℕ → ℕ
  begin = begin_of (labels 1 p.procs) (end_of 1 p.procs)

  -- the simulating procedures stand from 1 on
  from_one : (i : ℕ) (x : Proc Plain) → at (simulations G begin (end_of 1 p.procs) 0 (labels 1 p.procs)) i ≡ is x
      → at copy.procs (1 + i) ≡ is x
  from_one i x e = let s : 1 + i ≡ suc i = omega arith in rw s e

  module _ (sound : Sound concurrent p) where
    -- what is known of procedure m
    pub entry : (m : ℕ) (q : Proc ℕ) → at (labels 1 p.procs) m ≡ is q → Entry setting (labelled p) copy.procs begin m q
    entry m q e =
        let o : Proc Plain = (labels_at p.procs 1 m e).0 in
        let there : at p.procs m ≡ is o = (labels_at p.procs 1 m e).1 in
        let g : Numbered G begin (end_of 1 p.procs) copy.procs p.procs 1 m m o
        = numbered G begin (end_of 1 p.procs) copy.procs p.procs 1 0 from_one m m o (omega arith) there in
        let f : ProcSound concurrent p m o = proc_sound sound m o there in
        let size : locals_of (at p.procs m) ≡ o.locals = rw there in
        rw (is_inj (sym e ∙ g.labelled)) (record {
          in_n = at_below p.procs m there;
          size = size;
          params = f.params;
          begins = ap (first (end_of 1 p.procs m)) (body_at_lem (labels 1 p.procs) m g.labelled);
          coded = coded_each setting copy.procs begin m o.body g.start (end_of 1 p.procs m) (rw size g.holds);
          named = named_label p o.body g.start (locals_of (at p.procs m)) ∙ rw size ((names? p o.locals o.body).of f.named);
          allowed = allowed_label p o.body g.start (plain m) ∙ f.allowed;
          sets = (f.sets.0, after_label p o.body g.start (λ x. ltb x o.params) ∙ f.sets.1);
          last = rw (g.finish, size) g.last;
        })

    -- a labelled body is in the table, too
    pub brief : (m : ℕ) (q : Proc ℕ) → at (labels 1 p.procs) m ≡ is q → length (block q.body) ≤ length (table concurrent p)
    brief m q e =
        let o : Proc Plain = (labels_at p.procs 1 m e).0 in
        let there : at p.procs m ≡ is o = (labels_at p.procs 1 m e).1 in
        let g : Numbered G begin (end_of 1 p.procs) copy.procs p.procs 1 m m o
        = numbered G begin (end_of 1 p.procs) copy.procs p.procs 1 0 from_one m m o (omega arith) there in
        rw (is_inj (sym e ∙ g.labelled), block_label o.body g.start) (omega (arith, body_in_table concurrent p m there))

    -- a table has 16 bytes at least
    pub some_bytes : 2 ≤ length (table concurrent p)
    some_bytes = omega (arith, length-append (front p) (trailer (trailer_of concurrent p)))

    -- p and its copy
    abbrev pub world : World
    world = record {
      S = setting;
      source = labelled p;
      procs = copy.procs;
      begin = begin;
      places = refl;
      acyclic = λ m r. sound.calls m (reaches_labels p.procs 1 r);
      reached = λ k q r. reaches_labels p.procs 1 r;
      entries = entry;
      bytes = length (table concurrent p);
      some = some_bytes;
      brief = brief;
    }

    -- procedure 0 and the number of the copy's procedures
    pub zeroth : Zeroth world p.mains (counts p.procs)
    zeroth = record {
      zero_params = (_, refl, refl);
      labels = ap suc (length_simulations G begin (end_of 1 p.procs) p.procs 1 0);
      threads = refl;
    }

    -- each thread can be started
    pub startable : Startable world
    startable = record {
      mains = λ i m e.
          let q = main_at sound i m e in
          let g : Numbered G begin (end_of 1 p.procs) copy.procs p.procs 1 m m q.0
          = numbered G begin (end_of 1 p.procs) copy.procs p.procs 1 0 from_one m m q.0 (omega arith) q.1 in
          (_, g.labelled, q.2);
      some = sound.threads.low;
      sizes = fresh_first R p;
    }
