-- A table is accepted exactly if it is the table of a program that keeps document 01's rules.
use Rattle.std.specs.Prelude.{ℕ, zero, suc, ◌^◌, ◌≤◌, ◌<◌, ◌≡◌, refl, ◌↔◌, List, [], ◌∷◌}
use Rattle.std.proofs.Common.{arith, sym, ◌∙◌, ap, subst}
use Rattle.value.proofs.Laws.Lists.{Each}
use Rattle.format.specs.Syntax.{Proc, Program, Plain, Kind}
use Rattle.format.specs.Encode.{table, bodies_of}
use Rattle.format.specs.Rules.{limits, accepted, verdict}
use Rattle.value.proofs.Laws.Bytes.{Bytes}
use Rattle.format.proofs.Laws.Names.{Takes, Names, AllNames, all_names?}
use Rattle.format.proofs.Laws.Depths.{BodyRight}
use Rattle.format.proofs.Laws.Fits.{BlockFits}
use Rattle.format.proofs.Laws.Ranges.{body_fits}
use Rattle.format.proofs.Laws.Calls.{no_cycle?}
use Rattle.format.proofs.Laws.SetFirst.{SetFirst, set_first?}
use Rattle.format.proofs.Laws.Sound.{LocalsRight, FewLabels, NoCycle, Sound}
use Rattle.format.proofs.Laws.Formed.{Formed}
use Rattle.format.proofs.Laws.Judged.{labels?}
use Rattle.format.proofs.Laws.Passes.{small, takes_below, formed_judged}
use Rattle.format.proofs.Laws.Holds.{Holds, passes, holds}
use Rattle.format.specs.Decode.{max_nesting}

-- ---- a sound program's table is formed of it

-- a callee has few parameters
takes_few : (most : ℕ) (ps : List (Proc Plain)) (m n : ℕ) → Each (LocalsRight most) ps → Takes ps m n → n ≤ most
takes_few most [] m n h t = absurd t
takes_few most (p ∷ ps) zero n h t = omega (arith, t, h.0.params, h.0.locals)
takes_few most (p ∷ ps) (suc m) n h t = takes_few most ps m n h.1 t

module _ (k : Kind) (p : Program Plain) (sound : Sound k p) where
  -- the bodies fit: their names mean something
  pub bodies_fit : Each (BlockFits max_nesting) (bodies_of p.procs)
  bodies_fit = go p.procs sound.locals sound.bodies sound.named
    where
      arity : (m n : ℕ) → Takes p.procs m n → (m < 2 ^ 16) × (n < 2 ^ 8)
      arity m n t = (
        omega (arith, takes_below p.procs m n t, sound.procs, small k),
        omega (arith, takes_few (limits k).locals p.procs m n sound.locals t, small k),
      )

      go : (ps : List (Proc Plain)) → Each (LocalsRight (limits k).locals) ps → Each BodyRight (bodies_of ps)
          → Each (λ q. Names p q.locals q.body) ps
          → Each (BlockFits max_nesting) (bodies_of ps)
      go [] l h i = tt
      go (q ∷ ps) l h i = (
        body_fits p q.locals (omega (arith, l.0.locals, small k)) (omega (arith, sound.places, small k)) arity q.body h.0 i.0,
        go ps l.1 h.1 i.1,
      )

  -- rules 1 to 4
  pub sound_formed : Formed k (table k p) p
  sound_formed = record {
    same = refl;
    size = sound.size;
    procs = sound.procs;
    places = sound.places;
    threads = sound.threads;
    locals = sound.locals;
    sizes = sound.sizes;
    cells = sound.cells;
    mains = sound.mains;
    bodies = sound.bodies;
    fits = bodies_fit;
    allowed = sound.allowed;
  }

  -- no rule stops it
  pub accepted_of : verdict k (table k p) ≡ accepted p
  accepted_of =
      rw (
        formed_judged k (table k p) sound_formed,
        (all_names? p).of sound.named,
        (labels? k p).of sound.labels,
        (no_cycle? p).of sound.calls,
        (set_first? p).of sound.set,
      )

-- all rules together
formed_sound : (k : Kind) (t : List ℕ) (p : Program Plain) → Formed k t p → AllNames p → FewLabels k p → NoCycle p → SetFirst p → Sound k p
formed_sound k t p formed named labels calls set = record {
  size = rw (sym formed.same) formed.size;
  procs = formed.procs;
  places = formed.places;
  threads = formed.threads;
  locals = formed.locals;
  sizes = formed.sizes;
  cells = formed.cells;
  mains = formed.mains;
  bodies = formed.bodies;
  allowed = formed.allowed;
  named = named;
  labels = labels;
  calls = calls;
  set = set;
}

-- A TABLE IS ACCEPTED, AS THE PROGRAM P, EXACTLY IF IT IS P'S TABLE AND P KEEPS THE RULES.
pub accepted_exactly : (k : Kind) (t : List ℕ) → Bytes t → (p : Program Plain) → (verdict k t ≡ accepted p) ↔ ((t ≡ table k p) × Sound k p)
accepted_exactly k t h p = (λ e. inside (subst (Holds k t) e (holds k t h)), λ s. rw s.0 (accepted_of k p s.1))
  where
    inside : {q : Program Plain} → Holds k t (accepted q) → (t ≡ table k q) × Sound k q
    inside {q} (passes formed named labels calls set) = (formed.same, formed_sound k t q formed named labels calls set)

-- two sound programs with one table are one program
pub table_unique : (k : Kind) (p q : Program Plain) → Sound k p → Sound k q → table k p ≡ table k q → p ≡ q
table_unique k p q sp sq e =
    let both : accepted p ≡ accepted q = sym (accepted_of k p sp) ∙ ap (verdict k) e ∙ accepted_of k q sq in
    cc
