-- Where code stands: the body of a procedure, by its record, and the instruction with which code that remains begins.
use Prim.Native.Nat.{ℕ, ◌+◌, ◌*◌, ◌^◌, ◌≤◌, ◌<◌}
use native.Mathlib.Omega.{arith}
use mathlib.Core.Path.{◌≡◌, refl, sym, ap, subst, ◌∙◌}
use mathlib.Core.List.{List, ◌∷◌}
use mathlib.Core.Bool.{true}
use lib.ListN.{length, get_or}
use Rattle.value.specs.Maybe.{is}
use Rattle.value.specs.Lists.{at}
use Rattle.value.specs.Values.{bytes}
use Rattle.value.proofs.Laws.Lists.{In, each_at}
use Rattle.basics.specs.Places.{number_at}
use Rattle.basics.specs.Laws.Places.{number_at_lem}
use Rattle.format.specs.Syntax.{Expr, Instr, assign, write, read, while, if, call, atomic, select, Block, end, step, Proc, Program, Plain, concurrent}
use Rattle.format.specs.Encode.{expr, block, table, record_size, bodies_of}
use Rattle.format.specs.Decode.{max_nesting}
use Rattle.format.specs.Labels.{labelled, first, ends_of}
use Rattle.format.specs.Rules.{allowed_i, named_i, callees_i, callees_of}
use Rattle.format.proofs.Laws.Accepted.{bodies_fit}
use Rattle.format.proofs.Laws.Fits.{BlockFits}
use Rattle.format.proofs.Laws.Grammar.{InstrAt, BlockAt, WhileAt, while_here}
use Rattle.format.proofs.Laws.Labelled.{block_label}
use Rattle.format.proofs.Laws.Procs.{body_in, body_at_lem}
use Rattle.format.proofs.Laws.Sound.{Sound}
use Rattle.format.proofs.Laws.Stands.{Stands}
use Rattle.format.proofs.Laws.Stands as S
use Rattle.format.proofs.Laws.TablePlaces as T
use Rattle.labels.specs.LabelMap.{Node}
use Rattle.labels.specs.Laws.LabelMap.{remains_node}
use Rattle.labels.specs.Laws.Spots.{Remains}
use Rattle.decide.specs.Decided.{act_end}
use Rattle.atomic.specs.Laws.Fitting.{if_blocks}
use Rattle.atomic.specs.Laws.Standing.{Labelled, labelled_at, fits_label, Standing, Running, at_end, at_instr, node_stands}
use Rattle.report.proofs.Turning.{IsTest}

-- a block that is less deep
pub deeper : {t : List ℕ} {i d : ℕ} {b : Block ℕ} {j : ℕ} → d ≤ max_nesting → BlockAt t i d b j → BlockAt t i max_nesting b j
deeper l h = record { stands = h.stands; fits = (omega (arith, h.fits.0), h.fits.1) }

module _ {t : List ℕ} {p : Program Plain} (same : t ≡ table concurrent p) (sound : Sound concurrent p) where
  -- ---- a body

  -- procedure m: its record is one of those from `records` on, and says where its body stands
  pub record BodyAt (records m : ℕ) (q : Proc ℕ) : Type 0 where
    pub inside : records + record_size * m + record_size ≤ length t
    pub last : ℕ
    pub here : BlockAt t (number_at 4 t (records + record_size * m + 2)) max_nesting q.body last

  pub body_here : {records m : ℕ} {q : Proc ℕ} → records ≡ T.records_at p → at (labelled p).procs m ≡ is q → BodyAt records m q
  body_here {records} {m} {q} e o =
      let w : Labelled p.procs m q = labelled_at p.procs 1 m o in
      let s : Stands t (T.records_at p + record_size * m) (w.plain.params ∷ w.plain.locals ∷ bytes 4 (T.body_at p.procs m))
      (T.records_at p + record_size * m + record_size) =
      T.record_stands concurrent p same m w.found
      in
      let two : T.records_at p + record_size * m + 1 + 1 ≡ T.records_at p + record_size * m + 2 = omega arith in
      let b : Stands t (T.body_at p.procs m) (block w.plain.body) (T.body_at p.procs m + length (block w.plain.body)) =
      T.body_stands concurrent p same m w.found
      in
      let far : T.body_at p.procs m < 256 ^ 4 = omega (arith, b.fits, ap length same, sound.size) in
      let number : Stands t (T.records_at p + record_size * m + 2) (bytes 4 (T.body_at p.procs m)) (T.records_at p + record_size * m + record_size) =
      rw two at (S.others (S.others s))
      in
      let place : number_at 4 t (T.records_at p + record_size * m + 2) ≡ T.body_at p.procs m =
      number_at_lem 4 t (T.records_at p + record_size * m + 2) ∙ S.number_at_lem 4 (T.body_at p.procs m) number far
      in
      let fits : BlockFits max_nesting w.plain.body =
      each_at (BlockFits max_nesting) (bodies_of p.procs) m (bodies_fit concurrent p sound) (body_at_lem p.procs m w.found)
      in
      let bytes_same : block q.body ≡ block w.plain.body = ap (λ (c : Block ℕ). block c) w.body ∙ block_label w.plain.body w.from in
      rw e (record {
        inside = s.fits;
        last = T.body_at p.procs m + length (block w.plain.body);
        here = rw place (record {
          stands = rw bytes_same b;
          fits = rw w.body (fits_label w.from max_nesting w.plain.body fits);
        });
      })

  -- ---- the first instruction of code that remains

  -- code with an instruction is no empty code
  stepped : {a : ℕ} {s : Instr ℕ} {b : Block ℕ} → step a s b ≡ end → ⊥
  stepped e = subst kind e tt
    where
      kind : Block ℕ → Type 0
      kind end = ⊥
      kind (step a s b) = Unit {0}

  -- what the rules say of it
  pub record Ruled (m : ℕ) (s : Instr ℕ) : Type 0 where
    pub proc : Proc ℕ
    pub found : at (labelled p).procs m ≡ is proc
    pub named : named_i (labelled p) proc.locals s ≡ true
    pub allowed : allowed_i (body_in concurrent m) s ≡ true
    pub calls : (q : ℕ) → In q (callees_i s) → In q (callees_of (labelled p).procs m)

  pub ruled : {m tag : ℕ} {s : Instr ℕ} {c rest : Block ℕ} → Remains (labelled p).procs m c → c ≡ step tag s rest → Ruled m s
  ruled {m} {tag} {s} {c} {rest} r e =
      let w = remains_node p r in
      let n : Node = w.0 in
      let there : Standing t p m n.place c = rw (w.2, w.3) at (node_stands sound same (first (ends_of p m) c) w.1) in
      let v : Running t p m n.place c = at_instr there (λ z. stepped (sym e ∙ at_end there z)) in
      let one : step v.tag v.instr v.rest ≡ step tag s rest = sym v.code ∙ e in
      let instr : v.instr ≡ s = cc one in
      record {
        proc = v.proc;
        found = v.found;
        named = subst (λ s. named_i (labelled p) v.proc.locals s ≡ true) instr v.named;
        allowed = subst (λ s. allowed_i (body_in concurrent m) s ≡ true) instr v.allowed;
        calls = λ q k. v.calls q (subst (λ s. In q (callees_i s)) (sym instr) k);
      }

-- ---- the blocks of a test

-- its expression ends at j, and its blocks end at k
pub data TestAt (t : List ℕ) (i d j : ℕ) (s : Instr ℕ) (k : ℕ) : Type 0 where
  loops : (e : Expr) (b : Block ℕ) → s ≡ while e b → get_or t i 0 ≡ 0x23 → BlockAt t j d b k → TestAt t i d j s k
  forks : (e : Expr) (b c : Block ℕ) (l : ℕ) → s ≡ if e b c → get_or t i 0 ≡ 0x24 → BlockAt t j d b l → BlockAt t l d c k → TestAt t i d j s k

-- that of a while
while_block : {t : List ℕ} {i d k : ℕ} {e : Expr} {b : Block ℕ} → InstrAt t i d (while e b) k → BlockAt t (i + 1 + length (expr e)) d b k
while_block {t} {i} {d} {k} {e} {b} h =
    let w : WhileAt t i d (while e b) k = while_here h (S.first h.stands) in
    let test : w.e ≡ e = cc w.is in
    let body : w.b ≡ b = cc w.is in
    let from : w.k ≡ i + 1 + length (expr e) = w.test.stands.ends ∙ ap (λ x. i + 1 + length (expr x)) test in
    rw (from, body) at w.body

pub test_at : {t : List ℕ} {i d j k : ℕ} (s : Instr ℕ) → InstrAt t i d s k → IsTest s → j ≡ act_end i s → TestAt t i d j s k
test_at (while e b) h z q = loops e b refl (S.first h.stands) (rw q (while_block h))
test_at (if e b c) h z q = let w = if_blocks h in forks e b c w.0 refl (S.first h.stands) (rw q w.1) w.2
test_at (assign x e) h z q = absurd z
test_at (write y o e) h z q = absurd z
test_at (read x y o) h z q = absurd z
test_at (call m es) h z q = absurd z
test_at (atomic b) h z q = absurd z
test_at (select x y) h z q = absurd z
