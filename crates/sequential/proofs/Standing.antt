-- What stands where a run goes on: an instruction that keeps the rules, or the end of a body.
use Prim.Native.Nat.{ℕ, zero, suc, ◌+◌, ◌*◌, ◌-◌, ◌^◌, ◌≤◌, ◌<◌}
use native.Mathlib.Omega.{arith}
use mathlib.Core.Path.{◌≡◌, refl, sym, ap, subst, ◌∙◌}
use mathlib.Core.List.{List, [], ◌∷◌}
use mathlib.Core.Bool.{true}
use lib.ListN.{length, get_or}
use Rattle.value.specs.Maybe.{is}
use Rattle.value.specs.Lists.{at}
use Rattle.value.proofs.Laws.Maybes.{is_inj}
use Rattle.value.specs.Values.{bytes}
use Rattle.basics.specs.Places.{number_at}
use Rattle.value.proofs.Laws.Lists.{each_at}
use Rattle.basics.specs.Laws.Places.{number_at_lem}
use Rattle.format.specs.Syntax.{Instr, Block, end, step, ◌⊕◌, Proc, Program, Plain, sequential}
use Rattle.format.specs.Encode.{table, bodies_of, record_size}
use Rattle.format.specs.Encode as E
use Rattle.format.specs.Rules.{allowed_i}
use Rattle.labels.specs.Spots.{body_at, CodeAt}
use Rattle.format.proofs.Laws.Fits.{Says, SaysI, BlockFits}
use Rattle.format.proofs.Laws.Names.{NamesI}
use Rattle.format.proofs.Laws.Depths.{nesting}
use Rattle.format.proofs.Laws.Grammar.{InstrAt}
use Rattle.format.proofs.Laws.Stands.{Stands, front}
use Rattle.format.proofs.Laws.Stands as Stands
use Rattle.format.proofs.Laws.Procs.{ProcSound, proc_sound, body_in, body_at_lem}
use Rattle.format.proofs.Laws.Sound.{Sound}
use Rattle.format.proofs.Laws.TablePlaces as T
use Rattle.format.proofs.Laws.Accepted.{bodies_fit}
use Rattle.format.specs.Decode.{max_nesting}
use Rattle.labels.specs.Laws.Spots.{itself, join_end, Inherited, spot_has, deep_inherited}
use Rattle.labels.specs.Laws.Spots.{names_inherited, allowed_inherited, code_stands, step_byte, block_some}
use Rattle.jumps.specs.Jumps.{Settled, last, first, Jumps, Settles}

-- what the bytes of a block can say, those of its instructions and inner blocks can
says_inherited : Inherited {A = Plain} Says SaysI
says_inherited = record {
  first = λ a j b h. h.0;
  rest = λ a j b h. h.1;
  loop = λ e b h. h.1;
  yes = λ e b f h. h.1;
  no = λ e b f h. h.2;
}

-- at k, in procedure m of X locals, stands the first instruction of the code x
pub record Here (t : List ℕ) (p : Program Plain) (m X k : ℕ) (x : Block Plain) : Type 0 where
  pub instr : Instr Plain
  pub left : Block Plain
  pub after : Block Plain
  pub same : x ≡ step tt instr (left ⊕ after)
  pub code : CodeAt p.procs m k (step tt instr left) after
  pub there : InstrAt t k (max_nesting - 1) instr (k + length (E.instr instr))
  pub named : NamesI p X instr
  pub allowed : allowed_i (body_in sequential m) instr ≡ true

module _ {t : List ℕ} {p : Program Plain} (same : t ≡ table sequential p) (sound : Sound sequential p) where
  -- the code at a position stands there
  pub stands_here : {m k : ℕ} {d r : Block Plain} → CodeAt p.procs m k d r → Stands t k (E.block d) (k + length (E.block d))
  stands_here c = code_stands (T.all_bodies sequential p same) c

  -- there is a byte
  pub code_inside : {m k : ℕ} {d r : Block Plain} → CodeAt p.procs m k d r → k < length t
  code_inside {d = d} c = let s = stands_here c in omega (arith, s.fits, block_some d)

  -- the names of an instruction mean something
  pub code_named : {m k : ℕ} {q : Proc Plain} {i : Instr Plain} {d r : Block Plain} → at p.procs m ≡ is q → CodeAt p.procs m k (step tt i d) r
      → NamesI p q.locals i
  code_named {m} {i = i} e c =
      let one : c.proc ≡ _ = is_inj (sym c.found ∙ e) in
      subst (λ (z : Proc Plain). NamesI p z.locals i) one
      (spot_has (names_inherited p c.proc.locals) c.spot (proc_sound sound m c.proc c.found).named).0

  -- an instruction
  pub instr_here : {m k : ℕ} {q : Proc Plain} {i : Instr Plain} {d r x : Block Plain} → at p.procs m ≡ is q → CodeAt p.procs m k (step tt i d) r
      → x ≡ step tt i (d ⊕ r) → Here t p m q.locals k x
  instr_here {m} {k} {q} {i} {d} {r} e c f =
      let rules : ProcSound sequential p m c.proc = proc_sound sound m c.proc c.found in
      let fits : BlockFits max_nesting c.proc.body =
      each_at (BlockFits max_nesting) (bodies_of p.procs) m (bodies_fit sequential p sound) (body_at_lem p.procs m c.found)
      in
      let deep : nesting (step tt i d) ≤ max_nesting = spot_has (deep_inherited max_nesting) c.spot fits.0 in
      record {
        instr = i;
        left = d;
        after = r;
        same = f;
        code = c;
        there = record {
          stands = front (E.instr i) (E.block d) (stands_here c);
          fits = (omega arith, (spot_has says_inherited c.spot fits.1).0);
        };
        named = code_named e c;
        allowed = (allowed_inherited (body_in sequential m)).first tt i d
            (spot_has (allowed_inherited (body_in sequential m)) c.spot rules.allowed);
      }

  -- byte 00 only at the end of the body
  pub settled_end : {m k : ℕ} {x : Block Plain} → Settled p.procs m k x → get_or t k 0 ≡ 0 → x ≡ end
  settled_end (last c e) q = e
  settled_end (first i d r c e) q = absurd (step_byte tt i d (stands_here c) q)

  -- and elsewhere an instruction
  pub settled_here : {m k : ℕ} {q : Proc Plain} {x : Block Plain} → at p.procs m ≡ is q → Settled p.procs m k x → (get_or t k 0 ≡ 0 → ⊥)
      → Here t p m q.locals k x
  settled_here a (last c e) n = absurd (n (Stands.first (stands_here c)))
  settled_here a (first i d r c e) n = instr_here a c e

  -- a run that goes on from a position goes on with the code there
  pub settles_code : {js : List ℕ} {m k v : ℕ} (d : Block Plain) {r : Block Plain} → Jumps p.procs js → Settles t js k v
      → CodeAt p.procs m k d r → Settled p.procs m v (d ⊕ r)
  settles_code {js} {m} {k} {v} end {r} J S c =
      subst (λ (z : ℕ). Settled p.procs m z r) (sym (S.ended (Stands.first (stands_here c)))) ((J.entry m k end r c).goes r refl)
  settles_code {js} {m} {k} {v} (step a i d) {r} J S c =
      subst (λ (z : ℕ). Settled p.procs m z (step tt i (d ⊕ r))) (sym (S.other (step_byte tt i d (stands_here c)))) (first i d r c refl)

-- ---- the record of a procedure

-- bodies begin where the records say
body_at_far : (ps : List (Proc Plain)) (i m : ℕ) → body_at i ps m ≡ i + T.body_at ps m
body_at_far [] i m = omega arith
body_at_far (p ∷ ps) i zero = omega arith
body_at_far (p ∷ ps) i (suc m) = body_at_far ps (i + length (E.block p.body)) m ∙ omega arith

-- parameters, locals and the beginning of procedure m, whose record stands behind those of the procedures before it
pub record HeadAt (t : List ℕ) (records : ℕ) (ps : List (Proc Plain)) (m : ℕ) (q : Proc Plain) : Type 0 where
  pub inside : records + record_size * m + record_size ≤ length t
  pub params : get_or t (records + record_size * m) 0 ≡ q.params
  pub locals : get_or t (records + record_size * m + 1) 0 ≡ q.locals
  pub start : number_at 4 t (records + record_size * m + 2) ≡ body_at 0 ps m

module _ {t : List ℕ} {p : Program Plain} (same : t ≡ table sequential p) (sound : Sound sequential p) where
  pub head_at_lem : {records m : ℕ} {q : Proc Plain} → records ≡ T.records_at p → at p.procs m ≡ is q → HeadAt t records p.procs m q
  head_at_lem {records} {m} {q} e o =
      let s : Stands t (T.records_at p + record_size * m) (q.params ∷ q.locals ∷ bytes 4 (T.body_at p.procs m))
      (T.records_at p + record_size * m + record_size) =
      T.record_stands sequential p same m o
      in
      let two : T.records_at p + record_size * m + 1 + 1 ≡ T.records_at p + record_size * m + 2 = omega arith in
      let b : Stands t (T.body_at p.procs m) (E.block q.body) (T.body_at p.procs m + length (E.block q.body)) =
      T.body_stands sequential p same m o
      in
      let far : T.body_at p.procs m < 256 ^ 4 = omega (arith, b.fits, ap length same, sound.size) in
      let number : Stands t (T.records_at p + record_size * m + 2) (bytes 4 (T.body_at p.procs m)) (T.records_at p + record_size * m + record_size) =
      rw two at (Stands.others (Stands.others s))
      in
      rw e (record {
        inside = s.fits;
        params = Stands.first s;
        locals = Stands.first (Stands.others s);
        start =
            number_at_lem 4 t (T.records_at p + record_size * m + 2) ∙ Stands.number_at_lem 4 (T.body_at p.procs m) number far
            ∙ sym (body_at_far p.procs 0 m ∙ omega arith);
      })

-- a procedure begins with its body
pub settled_body : {ps : List (Proc Plain)} {m v : ℕ} {q : Proc Plain} → at ps m ≡ is q → v ≡ body_at 0 ps m → Settled ps m v q.body
settled_body {ps} {m} {v} {q} e f = by q.body (rw f (record { proc = q; found = e; spot = itself }))
  where
    by : (b : Block Plain) → CodeAt ps m v b end → Settled ps m v b
    by end c = last c refl
    by (step a i b) c = first i b end c (sym (join_end (step tt i b)))
