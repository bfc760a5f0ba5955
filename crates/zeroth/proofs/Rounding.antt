-- One law for each way through procedure 0.
use Prim.Native.Nat.{ℕ, zero, suc, ◌+◌, ◌-◌, ◌*◌, ◌<◌}
use native.Mathlib.Omega.{arith}
use native.Mathlib.Numerals.{add-one}
use mathlib.Core.Path.{◌≡◌, sym, ap, ◌∙◌}
use mathlib.Core.List.{List, [], ◌∷◌}
use mathlib.Core.Bool.{false}
use lib.ListN.{length, get_or, drop}
use Rattle.value.specs.Maybe.{is}
use Rattle.value.specs.Values.{not, equal}
use Rattle.value.specs.Lists.{at}
use Rattle.value.specs.declared.Value.TheVariants.{Truth}
use Rattle.value.proofs.Laws.Lists.{at_below, at_get_d}
use Rattle.value.proofs.Laws.Maybes.{is_inj, missing}
use Rattle.format.specs.Syntax.{constant, local, one, two, assign, write, while, call, end, Program, Plain}
use Rattle.format.specs.Encode.{expr, block}
use Rattle.format.specs.Labels.{counts}
use Rattle.format.proofs.Laws.Procs.{main_at}
use Rattle.translation.specs.Layout.{Layout, layout_in}
use Rattle.translation.specs.Code.{◌then◌, tmp, num, loc}
use Rattle.translation.specs.Translate.{stmt, terminated, for_each, switch, round, begins}
use Rattle.writer.specs.declared.page.Page.{Page}
use Rattle.writer.specs.Laws.Pages.{Puts, PutsExpr, PutsInstr, PutsBlock, Writes}
use Rattle.emit.specs.Laws.Sources.{Sited}
use Rattle.emit.specs.Laws.Shapes.{Shaped, MainAt, Hubbed, HubAt, SiteAt}
use Rattle.simulation.specs.Laws.Bodies.{Begun, BeginAt}
use Rattle.zeroth.specs.Laws.Zeroth.{judgment, piece_of, OneThread, ThreadsLeft}
use Rattle.zeroth.specs.Laws.Zeroth.{AllThreads, Invokes, Cases, SwitchLeft, Switches, Chooses}
use Rattle.zeroth.specs.Laws.Zeroth.{Closes}
use Rattle.zeroth.specs.Laws.Zeroth.{RoundOf, LoopOf, StartOf, ZerothOf}
use Rattle.emit.specs.declared.layout.Shape.{Shape}
use Rattle.emit.specs.declared.layout.Hub.{Hub}
use Rattle.emit.specs.declared.layout.Site.{Site}
use Rattle.zeroth.specs.declared.procedure.Part.{Part}
use Rattle.zeroth.specs.declared.procedure.Part.TheVariants.{Beginning, From}
use Rattle.writer.proofs.Paging.{puts_then, puts_cons, puts_same}
use Rattle.emit.proofs.Coding.{writes_instr, writes_then, writes_block, block_end}

-- ---- instructions

module _ {o o₁ o₂ : Page} where
  -- tmp[i] := n
  pub initial : {o₃ : Page} {i n : ℕ} → Puts o (0x21 ∷ 1 ∷ []) o₁ → PutsExpr o₁ (num i) o₂ → PutsExpr o₂ (num n) o₃
      → PutsInstr o (write tmp (num i) (num n)) o₃
  initial {i = i} {n} A B C = record { puts = puts_then (0x21 ∷ 1 ∷ []) _ A (puts_then (expr (num i)) (expr (num n)) B.puts C.puts) }

  -- terminated := terminated and (stmt = 0)
  pub judge : Puts o (0x20 ∷ 3 ∷ 0x15 ∷ 5 ∷ 3 ∷ []) o₁ → PutsExpr o₁ (two equal (local stmt) (num 0)) o₂ → PutsInstr o judgment o₂
  judge A B = record { puts = puts_then (0x20 ∷ 3 ∷ 0x15 ∷ 5 ∷ 3 ∷ []) _ A B.puts }

  -- "if stmt = l, call l with tid, else nothing"
  pub case : {o₃ o₄ : Page} {l : ℕ} → Puts o (0x24 ∷ []) o₁ → PutsExpr o₁ (two equal (local stmt) (num l)) o₂
      → Invokes l o₂ o₃ → Puts o₃ (0 ∷ []) o₄ → Cases l o o₄
  case {l = l} A B C D = record {
    gives = record {
      puts = puts_cons A
          (puts_then (expr (two equal (local stmt) (num l))) _ B.puts
          (puts_then (block {A = Plain} (call l (local 0 ∷ []) then end)) (0 ∷ []) C.gives.puts D));
    };
  }

-- ---- threads

module _ {t : List ℕ} {h : Shape} {bounds : List ℕ} where
  -- its beginning
  pub thread_begin : {o o' : Page} {k m b : ℕ} {part : Part} → part ≡ Beginning → MainAt t h k m → BeginAt bounds m b
      → PutsInstr o (write tmp (num k) (num b)) o' → OneThread part t h bounds k o o'
  thread_begin {o} {o'} {k} {m} {b} {part} c M B P = rw c (record { gives = gives })
    where
      gives : (q : Program Plain) (n : ℕ) → Shaped t h q → Begun q bounds → at q.mains k ≡ is n
          → Writes o (piece_of Beginning h.mode q k n) o'
      gives q n w begun e =
          let main : m ≡ n = M.gives q n w e in
          let there = main_at w.sound k n e in
          let less : n < length q.procs = at_below q.procs n there.1 in
          let begin : b ≡ begins q n =
          B.gives (omega (arith, main, less, w.sound.procs.high)) ∙ ap (λ (x : ℕ). get_or bounds (2 * x) 0) main ∙ begun.begins n less
          in
          writes_instr (rw begin at P)

  -- its "from"
  pub thread_from : {o o₁ o₂ : Page} {k m : ℕ} {s : Site} {part : Part} → part ≡ From → MainAt t h k m → SiteAt t h m s
      → PutsInstr o (assign tmp (loc s.from)) o₁ → PutsInstr o₁ (write tmp (num k) (num 0)) o₂ → OneThread part t h bounds k o o₂
  thread_from {o} {o₁} {o₂} {k} {m} {s} {part} c M S A B = rw c (record { gives = gives })
    where
      gives : (q : Program Plain) (n : ℕ) → Shaped t h q → Begun q bounds → at q.mains k ≡ is n → Writes o (piece_of From h.mode q k n) o₂
      gives q n w begun e =
          let main : m ≡ n = M.gives q n w e in
          let there = main_at w.sound k n e in
          let S' : SiteAt t h n s = rw main at S in
          let here : Sited (layout_in h.mode q) n there.0.locals s = S'.gives q there.0 w there.1 in
          writes_then (writes_instr (rw here.from at A)) (writes_instr B)

  -- one more
  pub threads_next : {part : Part} {o o₁ o₂ : Page} {k n : ℕ} → ThreadsLeft part t h bounds k o o₁ → n ≡ h.threads → k < n
      → OneThread part t h bounds k o₁ o₂ → ThreadsLeft part t h bounds (k + 1) o o₂
  threads_next {part} {o} {o₁} {o₂} {k} {n} L all less T = record {
    left = λ q w begun c.
        let m : ℕ = get_or q.mains k 0 in
        let there : at q.mains k ≡ is m = at_get_d q.mains k 0 (omega (arith, all, less, w.threads)) in
        let one = (T.gives q m w begun there).before (for_each (piece_of part h.mode q) (suc k) (drop (suc k) q.mains) c) in
        let here = L.left q w begun c in
        let rest : drop k q.mains ≡ m ∷ drop (suc k) q.mains = drop_at_one q.mains k there in
        rw add-one
        (record {
          then = λ P. here.then (puts_same (ap (λ (ms : List ℕ). block (for_each (piece_of part h.mode q) k ms c)) (sym rest)) (one.then P));
        });
  }
    where
      drop_at_one : (xs : List ℕ) (i : ℕ) {x : ℕ} → at xs i ≡ is x → drop i xs ≡ x ∷ drop (suc i) xs
      drop_at_one [] i e = missing e
      drop_at_one (y ∷ xs) zero e = ap (◌∷ xs) (is_inj e)
      drop_at_one (y ∷ xs) (suc i) e = drop_at_one xs i e

-- ---- labels

-- one more
pub switch_next : {n k : ℕ} {o o₁ o₂ : Page} → SwitchLeft n k o o₁ → k < n → Cases (k + 1) o₁ o₂
    → SwitchLeft n (k + 1) o o₂
switch_next {n} {k} {o} {o₁} {o₂} L less C = record {
  left = λ c.
      let left : n - k ≡ suc (n - (k + 1)) = omega arith in
      let one = (writes_instr C.gives).before (switch (suc (k + 1)) (n - (k + 1)) c) in
      let here = L.left c in
      rw (add-one (k + 1))
      (record {
        then = λ P. here.then (puts_same (ap (λ (z : ℕ). block (switch (k + 1) z c)) (sym left)) (one.then P));
      });
}

-- ---- the round and the loop

module _ {t : List ℕ} {h : Shape} {bounds : List ℕ} {u : Hub} where
  -- the round
  pub rounds : {o o₁ o₂ o₃ : Page} {n : ℕ} → Chooses u o o₁ → n ≡ h.labels → Switches n o₁ o₂ → Closes t h bounds u o₂ o₃
      → RoundOf t h bounds u o o₃
  rounds {o} {o₁} {o₂} {o₃} {n} A all B C = record { gives = gives }
    where
      gives : (q : Program Plain) → Shaped t h q → Begun q bounds → Hubbed (layout_in h.mode q) u
          → PutsBlock o (round (layout_in h.mode q) q.mains (counts q.procs)) o₃
      gives q w begun hub =
          let B' : Switches (counts q.procs) o₁ o₂ = rw (all ∙ w.labels) at B in
          let whole = writes_block A.gives (writes_block B'.gives (C.gives q w begun)) in
          rw (hub.ptid, hub.pct) at whole

  -- "terminated := false; while not terminated"
  pub loops : {o o₁ o₂ o₃ o₄ : Page} → Puts o (0x20 ∷ 3 ∷ 3 ∷ []) o₁ → Puts o₁ (0x23 ∷ 0x16 ∷ 5 ∷ 3 ∷ []) o₂ → RoundOf t h bounds u o₂ o₃
      → Puts o₃ (0 ∷ []) o₄ → LoopOf t h bounds u o o₄
  loops A B R E = record {
    gives = λ q w begun hub.
        let G : Layout = layout_in h.mode q in
        let L : ℕ = counts q.procs in
        writes_block (writes_instr {i = assign terminated (constant (Truth false))} (record { puts = A }))
        (writes_block
        (writes_instr {i = while (one not (local terminated)) (round G q.mains L)} (record {
          puts = puts_then (0x23 ∷ 0x16 ∷ 5 ∷ 3 ∷ []) (block (round G q.mains L)) B (R.gives q w begun hub).puts;
        }))
        (block_end E));
  }

  -- the start
  pub starts : {o o₁ o₂ o₃ : Page} → PutsInstr o (assign tmp (loc u.pct)) o₁ → AllThreads Beginning t h bounds o₁ o₂
      → AllThreads From t h bounds o₂ o₃ → StartOf t h bounds u o o₃
  starts A B C = record {
    gives = λ q w begun hub. writes_then (writes_instr (rw hub.pct at A)) (writes_then (B.gives q w begun) (C.gives q w begun));
  }

  -- procedure 0
  pub zeroths : {o o₁ o₂ : Page} → HubAt h u → StartOf t h bounds u o o₁ → LoopOf t h bounds u o₁ o₂
      → ZerothOf t h bounds o o₂
  zeroths H A B = record {
    gives = λ q w begun. let hub = H.gives t q w in writes_block (A.gives q w begun hub) (B.gives q w begun hub);
  }

-- one law for each way
pub ruleset round_ways = (
  initial,
  judge,
  case,
  thread_begin,
  thread_from,
  threads_next,
  switch_next,
  rounds,
  loops,
  starts,
  zeroths,
)
