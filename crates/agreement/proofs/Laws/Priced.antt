-- The list of prices has the label of each instruction in its place, so along every run the price of a step lies between those of its label.
use Rattle.std.specs.Prelude.{ℕ, zero, suc, ◌+◌, ◌≤◌, ◌≡◌, refl, List, [], ◌∷◌, ◌++◌, Bool, true, false, length, take, set, eqb}
use Rattle.std.proofs.Common.{arith, add-zero, sym, ap, ◌∙◌, length-append}
use Rattle.std.proofs.Math.Bool as B
use Rattle.value.specs.Maybe.{Maybe, is, nothing, either, pick}
use Rattle.value.specs.Try.{Try, has, lacks, ◌⟫◌, or_lacks}
use Rattle.value.specs.Lists.{at}
use Rattle.value.specs.Values.{truth}
use Rattle.value.specs.declared.Reason.TheVariants.{WrongKind, FinishedThread}
use Rattle.value.proofs.Laws.Maybes.{is_inj, missing}
use Rattle.value.proofs.Laws.Tries.{has_inj, lacking, chain_has, provided_has, or_lacks_has}
use Rattle.value.proofs.Laws.Tests.{both_passed, by_test}
use Rattle.value.proofs.Laws.Lists.{Each, each_at, at_after, at_front}
use Rattle.format.specs.Syntax.{Instr, assign, write, read, while, if, call, atomic, select, Block, end, step, ◌⊕◌, Proc, Program, Plain, concurrent}
use Rattle.format.specs.Encode.{table}
use Rattle.format.specs.Labels.{count, count_i, label, label_i, labels, labelled, end_of}
use Rattle.format.specs.Rules.{verdict, accepted, allowed, allowed_i, plainly}
use Rattle.format.proofs.Laws.Bytes.{Bytes}
use Rattle.format.proofs.Laws.Sound.{Sound}
use Rattle.format.proofs.Laws.Accepted.{accepted_exactly}
use Rattle.format.proofs.Laws.Procs.{body_in, ProcSound, proc_sound}
use Rattle.format.proofs.Laws.Labelled.{labels_at, allowed_label, end_of_labels}
use Rattle.translation.specs.Layout.{locals_of}
use Rattle.semantics.specs.Memory.{Env, Memory, Event, eval, evals}
use Rattle.semantics.specs.Step.{Stack, Moved, runs}
use Rattle.semantics.specs.Threads as P
use Rattle.semantics.proofs.Laws.Ends.{step_run}
use Rattle.semantics.proofs.Laws.Reached.{each_set}
use Rattle.agreement.specs.declared.PricesAnswer.{PricesAnswer}
use Rattle.agreement.specs.Price.{price}
use Rattle.agreement.specs.Prices.{Prices, only, step_prices, held, each, all, prices_at, answered, prices_as, prices_call}
use Rattle.agreement.specs.Agreement.{program_run, prices, prices_of}
use Rattle.agreement.proofs.Laws.Accesses.{indexed, pointed, access}
use Rattle.agreement.proofs.Laws.Shows.{price_step, price_blocked, price_done, start_run}
use Rattle.agreement.proofs.Laws.Ranges.{Within, within_only, step_within, Single, single}

-- ---- places in the list

-- as many prices as labels
mutual
  length_held : (n : ℕ) (i : Instr Plain) (l : ℕ) → suc (length (held n (label_i l i))) ≡ count_i i
  length_held n (assign x e) l = refl
  length_held n (write y o e) l = refl
  length_held n (read x y o) l = refl
  length_held n (while e b) l = ap suc (length_each n b (suc l))
  length_held n (if e b c) l =
      omega (
        arith,
        length-append (each n (label (suc l) b)) (each n (label (suc l + count b) c)),
        length_each n b (suc l),
        length_each n c (suc l + count b),
      )
  length_held n (call m es) l = refl
  length_held n (atomic b) l = refl
  length_held n (select x y) l = refl

  -- of a block
  length_each : (n : ℕ) (b : Block Plain) (l : ℕ) → length (each n (label l b)) ≡ count b
  length_each n end l = refl
  length_each n (step a i b) l =
      omega (arith, length-append (held n (label_i l i)) (each n (label (l + count_i i) b)), length_held n i l, length_each n b (l + count_i i))

module _ (find : ℕ → Maybe Prices) where
  -- the prices xs are found from label l on
  abbrev Holds : ℕ → List Prices → Type 0
  Holds l xs = (i : ℕ) (x : Prices) → at xs i ≡ is x → find (l + i) ≡ is x

  -- the first thing
  holds_head : (l : ℕ) (x : Prices) (xs : List Prices) → Holds l (x ∷ xs) → find l ≡ is x
  holds_head l x xs h = rw (add-zero l) at (h 0 x refl)

  -- those after some
  holds_back : (l k : ℕ) (xs ys : List Prices) → k ≡ l + length xs → Holds l (xs ++ ys) → Holds k ys
  holds_back l k xs ys p h i x e = let q : k + i ≡ l + (length xs + i) = omega arith in rw q (h (length xs + i) x (at_after xs ys i ∙ e))

  -- those before some
  holds_front : (l : ℕ) (xs ys : List Prices) → Holds l (xs ++ ys) → Holds l xs
  holds_front l xs ys h i x e = h i x (at_front xs ys i e)

  -- in procedure m of n locals
  module _ (m n : ℕ) where
    abbrev mutual
      -- the labels inside an instruction
      pub ListedI : Instr ℕ → Type 0
      ListedI (assign x e) = Unit {0}
      ListedI (write y o e) = Unit {0}
      ListedI (read x y o) = Unit {0}
      ListedI (while e b) = Listed b
      ListedI (if e b d) = Listed b × Listed d
      ListedI (call q es) = Unit {0}
      ListedI (atomic b) = Unit {0}
      ListedI (select x y) = Unit {0}

      -- each instruction of a block may stand there, and the prices of its label are its own
      pub Listed : Block ℕ → Type 0
      Listed end = Unit {0}
      Listed (step l i b) = (find l ≡ is (step_prices n i)) × (allowed_i (body_in concurrent m) i ≡ true) × ListedI i × Listed b

    -- one block after another
    listed_append : (b c : Block ℕ) → Listed b → Listed c → Listed (b ⊕ c)
    listed_append end c h k = k
    listed_append (step l i b) c h k = (h.0, h.1, h.2, listed_append b c h.3 k)

    mutual
      -- the labels inside an instruction are in their places
      held_listed : (i : Instr Plain) (l : ℕ) → allowed_i (body_in concurrent m) (label_i l i) ≡ true → Holds (suc l) (held n (label_i l i))
          → ListedI (label_i l i)
      held_listed (assign x e) l al h = tt
      held_listed (write y o e) l al h = tt
      held_listed (read x y o) l al h = tt
      held_listed (while e b) l al h =
          each_listed b (suc l) (both_passed (plainly (body_in concurrent m)) (allowed (body_in concurrent m) (label (suc l) b)) al).1 h
      held_listed (if e b d) l al h =
          let w = both_passed (allowed (body_in concurrent m) (label (suc l) b)) (allowed (body_in concurrent m) (label (suc l + count b) d)) al in (
            each_listed b (suc l) w.0 (holds_front (suc l) (each n (label (suc l) b)) (each n (label (suc l + count b) d)) h),
            each_listed d (suc l + count b) w.1
                (holds_back (suc l) (suc l + count b) (each n (label (suc l) b)) (each n (label (suc l + count b) d))
                (rw (length_each n b (suc l))) h),
          )
      held_listed (call q es) l al h = tt
      held_listed (atomic b) l al h = tt
      held_listed (select x y) l al h = tt

      -- those of a block
      each_listed : (b : Block Plain) (l : ℕ) → allowed (body_in concurrent m) (label l b) ≡ true → Holds l (each n (label l b)) → Listed (label l b)
      each_listed end l al h = tt
      each_listed (step a i b) l al h =
          let w = both_passed (allowed_i (body_in concurrent m) (label_i l i)) (allowed (body_in concurrent m) (label (l + count_i i) b)) al in
          let own : Prices = step_prices n (label_i l i) in
          let rest : List Prices = each n (label (l + count_i i) b) in
          let after : Holds (suc l) (held n (label_i l i) ++ rest) = holds_back l (suc l) (own ∷ []) (held n (label_i l i) ++ rest) (omega arith) h in (
            holds_head l own (held n (label_i l i) ++ rest) h,
            w.0,
            held_listed i l w.0 (holds_front (suc l) (held n (label_i l i)) rest after),
            each_listed b (l + count_i i) w.1
                (holds_back (suc l) (l + count_i i) (held n (label_i l i)) rest (omega (arith, length_held n i l)) after),
          )

  -- procedure m of a program whose labels begin with l
  record Placed (ps : List (Proc Plain)) (l m : ℕ) (o : Proc Plain) : Type 0 where
    start : ℕ
    labelled : at (labels l ps) m ≡ is (record { params = o.params; locals = o.locals; body = label start o.body })
    body : Holds start (each o.locals (label start o.body))
    last : find (end_of l ps m) ≡ is (only 4)

  -- each has its place
  placed : (ps : List (Proc Plain)) (l : ℕ) → Holds l (all (labels l ps)) → (m : ℕ) (o : Proc Plain) → at ps m ≡ is o → Placed ps l m o
  placed [] l h m o e = missing e
  placed (p ∷ ps) l h zero o e =
      let same : p ≡ o = is_inj e in
      let rest : List Prices = only 4 ∷ all (labels (l + suc (count p.body)) ps) in
      let own : List Prices = each p.locals (label l p.body) in
      rw (← same) (record {
        start = l;
        labelled = refl;
        body = holds_front l own rest h;
        last = holds_head (l + count p.body) (only 4) (all (labels (l + suc (count p.body)) ps))
            (holds_back l (l + count p.body) own rest (rw (length_each p.locals p.body l)) h);
      })
  placed (p ∷ ps) l h (suc m) o e =
      let more : List Prices = all (labels (l + suc (count p.body)) ps) in
      let own : List Prices = each p.locals (label l p.body) in
      let long : l + suc (count p.body) ≡ l + count p.body + 1 = omega arith in
      let g = placed ps (l + suc (count p.body))
      (holds_back (l + count p.body) (l + suc (count p.body)) (only 4 ∷ []) more long
      (holds_back l (l + count p.body) own (only 4 ∷ more) (rw (length_each p.locals p.body l)) h)) m o e in
      record { start = g.start; labelled = g.labelled; body = g.body; last = g.last }

-- ---- along a run

module _ (q : Program ℕ) (find : ℕ → Maybe Prices) where
  -- procedure m is p: its labels are in their places
  record Known (m : ℕ) (p : Proc ℕ) : Type 0 where
    body : Listed find m p.locals p.body
    last : find (end_of 1 q.procs m) ≡ is (only 4)

  -- code that remains of procedure m
  record Remains (m : ℕ) (c : Block ℕ) : Type 0 where
    proc : Proc ℕ
    found : at q.procs m ≡ is proc
    code : Listed find m proc.locals c

  -- in each frame of a stack
  abbrev Stacked : Stack ℕ → Type 0
  Stacked [] = Unit {0}
  Stacked (f ∷ s) = Remains f.proc f.code × Stacked s

  -- where an instruction has no if inside an atomic block, or a thread is at an end label
  abbrev pub Lone : Stack ℕ → Type 0
  Lone [] = Unit {0}
  Lone (f ∷ s) = elim f.code [ end ↦ Unit {0} | step a i c ↦ Single i ]

  -- the prices of the label that a thread is at, and x between them
  pub record Priced (s : Stack ℕ) (x : ℕ) : Type 0 where
    pub prices : Prices
    pub found : find (P.label_of q s) ≡ is prices
    pub within : Within x prices
    pub one : Lone s → prices.least ≡ prices.most

  module _ (known : (m : ℕ) (p : Proc ℕ) → at q.procs m ≡ is p → Known m p) (t m : ℕ) (ρ : Env) (s : Stack ℕ) (η : Memory) where
    -- a step keeps the code listed
    stacked_code : (c : Block ℕ) → Stacked (record { proc = m; env = ρ; code = c } ∷ s) → (r : Moved ℕ) → P.code q.procs t c m ρ s η ≡ has r
        → Stacked r.stack
    stacked_code end K r p = rw (← has_inj p) K.1
    stacked_code (step a i c) (F, K) r p = go i F.code r p
      where
        -- what follows the instruction, with code d before it
        on : (d : Block ℕ) → Listed find m F.proc.locals d → Remains m d
        on d h = record { proc = F.proc; found = F.found; code = h }

        go : (i : Instr ℕ) → Listed find m F.proc.locals (step a i c) → (r : Moved ℕ) → P.first_instr q.procs t m ρ a i c s η ≡ has r
            → Stacked r.stack
        go (assign x e) h r p = let b = chain_has (eval ρ e) _ p in rw (← has_inj b.2) (on c h.3, K)
        go (write y o e) h r p =
            let b = chain_has (eval ρ e) _ p in
            let g = access (indexed ρ o) (pointed ρ y) η _ b.2 in
            rw (← has_inj g.then) (on c h.3, K)
        go (read x y o) h r p = let g = access (indexed ρ o) (pointed ρ y) η _ p in rw (← has_inj g.then) (on c h.3, K)
        go (while e b) h r p = let u = chain_has (eval ρ e ⟫ truth) _ p in rw (← has_inj u.2) (by u.0, K)
          where
            by : (k : Bool) → Remains m (pick k (b ⊕ step a (while e b) c) c)
            by true = on (b ⊕ step a (while e b) c) (listed_append find m F.proc.locals b (step a (while e b) c) h.2 h)
            by false = on c h.3
        go (if e b d) h r p = let u = chain_has (eval ρ e ⟫ truth) _ p in rw (← has_inj u.2) (by u.0, K)
          where
            by : (k : Bool) → Remains m (pick k b d ⊕ c)
            by true = on (b ⊕ c) (listed_append find m F.proc.locals b c h.2.0 h.3)
            by false = on (d ⊕ c) (listed_append find m F.proc.locals d c h.2.1 h.3)
        go (call f es) h r p =
            let b₁ = chain_has (evals ρ es) _ p in
            let b₂ = chain_has (or_lacks WrongKind (at q.procs f)) _ b₁.2 in
            let b₃ = provided_has (B.not (either (eqb f m) (runs f s))) WrongKind _ b₂.2 in
            let there = or_lacks_has WrongKind (at q.procs f) b₂.1 in
            rw (← b₃.1) (record { proc = b₂.0; found = there; code = (known f b₂.0 there).body }, (on c h.3, K))
        go (atomic b) h r p =
            let u = chain_has (P.to_end q.procs t a (P.size b) (record { proc = m; env = ρ; code = b } ∷ []) η []) _ p in
            rw (← has_inj u.2) (on c h.3, K)
        go (select x y) h r p = lacking p

    -- its price lies between those of its label
    priced_code : (c : Block ℕ) → Stacked (record { proc = m; env = ρ; code = c } ∷ s) → (r : Moved ℕ) → P.code q.procs t c m ρ s η ≡ has r
        → Priced (record { proc = m; env = ρ; code = c } ∷ s) (price q t (record { proc = m; env = ρ; code = c } ∷ s) η)
    priced_code end (F, K) r p = record {
      prices = only 4;
      found = (known m F.proc F.found).last;
      within = within_only 4;
      one = λ h. refl;
    }
    priced_code (step a i c) (F, K) r p =
        let size : locals_of (at q.procs m) ≡ F.proc.locals = rw F.found in
        record {
          prices = step_prices F.proc.locals i;
          found = F.code.0;
          within = rw size (step_within q.procs t m F.proc.locals ρ a i c s η F.code.1 p);
          one = λ h. single F.proc.locals i h;
        }

  module _ (known : (m : ℕ) (p : Proc ℕ) → at q.procs m ≡ is p → Known m p) where
    -- entry k of a schedule, from a state: the thread and its stack before that step, which costs x
    record Taken (ts : List ℕ) (st : P.State) (j : ℕ) (evs : List Event) (k x : ℕ) : Type 0 where
      thread : ℕ
      stack : Stack ℕ
      entry : at ts k ≡ is thread
      there : at (P.run q (take k ts) st j evs).state.threads thread ≡ is stack
      priced : Priced stack x

    -- each price is that of a step
    taken : (ts : List ℕ) (st : P.State) (j : ℕ) (evs : List Event) → Each Stacked st.threads → (k x : ℕ) → at (prices q ts st) k ≡ is x
        → Taken ts st j evs k x
    taken [] st j evs h k x e = missing e
    taken (t ∷ ts) st j evs h k x e = go (taken ts) (P.thread_step q t st) refl
      where
        Ih : Type 0
        Ih =
            (st : P.State) (j : ℕ) (evs : List Event) → Each Stacked st.threads → (k x : ℕ) → at (prices q ts st) k ≡ is x → Taken ts st j evs k x

        go : Ih → (m : Try P.Step) → P.thread_step q t st ≡ m → Taken (t ∷ ts) st j evs k x
        go ih (lacks why) p = missing (rw (price_blocked q t ts st p) at e)
        go ih (has r) p =
            let b₁ = chain_has (or_lacks FinishedThread (at st.threads t)) _ p in
            let b₂ = chain_has (P.thread q.procs t b₁.0 st.memory) _ b₁.2 in
            let mine : at st.threads t ≡ is b₁.0 = or_lacks_has FinishedThread (at st.threads t) b₁.1 in
            by k b₁.0 mine b₂.0 b₂.1 (has_inj b₂.2) (rw (price_step q t ts st b₁.0 r mine p) at e)
          where
            by : (k : ℕ) (s : Stack ℕ) → at st.threads t ≡ is s → (v : Moved ℕ) → P.thread q.procs t s st.memory ≡ has v
                → record { state = record { threads = set st.threads t v.stack; memory = v.memory }; events = v.events } ≡ r
                → at (price q t s st.memory ∷ prices q ts r.state) k ≡ is x → Taken (t ∷ ts) st j evs k x
            by k [] mine v w is-r z = lacking w
            by zero (f ∷ s) mine v w is-r z = record {
              thread = t;
              stack = f ∷ s;
              entry = refl;
              there = rw (start_run q st j evs).0 mine;
              priced = rw (← is_inj z) (priced_code known t f.proc f.env s st.memory f.code (each_at Stacked st.threads t h mine) v w);
            }
            by (suc k) (f ∷ s) mine v w is-r z =
                let next : Each Stacked r.state.threads =
                rw (← is-r) (each_set Stacked st.threads t v.stack h
                (stacked_code known t f.proc f.env s st.memory f.code (each_at Stacked st.threads t h mine) v w))
                in
                by_test (P.done st.threads)
                (λ d. missing (rw (price_done q (t ∷ ts) st d) at e))
                (λ d.
                let g = ih r.state (suc j) (evs ++ r.events) next k x z in
                record {
                  thread = g.thread;
                  stack = g.stack;
                  entry = g.entry;
                  there = rw (step_run q t (take k ts) st j evs r d p) g.there;
                  priced = g.priced;
                })

-- ---- of an accepted program

module _ (p : Program Plain) (sound : Sound concurrent p) where
  -- the prices of all labels, from 1 on
  from_one : Holds (prices_at p) 1 (all (labels 1 p.procs))
  from_one i x e = let s : 1 + i ≡ suc i = omega arith in rw s e

  -- each procedure's labels are in their places
  known : (m : ℕ) (q : Proc ℕ) → at (labels 1 p.procs) m ≡ is q → Known (labelled p) (prices_at p) m q
  known m q e =
      let o : Proc Plain = (labels_at p.procs 1 m e).0 in
      let there : at p.procs m ≡ is o = (labels_at p.procs 1 m e).1 in
      let g : Placed (prices_at p) p.procs 1 m o = placed (prices_at p) p.procs 1 from_one m o there in
      let f : ProcSound concurrent p m o = proc_sound sound m o there in
      rw (is_inj (sym e ∙ g.labelled)) (record {
        body = each_listed (prices_at p) m o.locals o.body g.start (allowed_label p o.body g.start (body_in concurrent m) ∙ f.allowed)
            g.body;
        last = rw (end_of_labels p.procs 1 1 m) g.last;
      })

  -- so is what each thread begins with
  started : (ms : List ℕ) → Each (Stacked (labelled p) (prices_at p)) (P.starts (labelled p).procs ms)
  started [] = tt
  started (m ∷ ms) = (one (at (labelled p).procs m) refl, started ms)
    where
      one : (q : Maybe (Proc ℕ)) → at (labelled p).procs m ≡ q → Stacked (labelled p) (prices_at p) (P.begun m q)
      one nothing e = tt
      one (is q) e = (record { proc = q; found = e; code = (known m q e).body }, tt)

-- the step of entry k costs x, of the program p under the schedule ts: the thread and its stack before it, and what `prices` answers for its label
pub record Between (t : List ℕ) (p : Program Plain) (ts : List ℕ) (k x : ℕ) : Type 0 where
  pub thread : ℕ
  pub stack : Stack ℕ
  pub entry : at ts k ≡ is thread
  pub there : at (program_run p (take k ts)).state.threads thread ≡ is stack
  pub low : (prices_call t (P.label_of (labelled p) stack)).least ≤ x
  pub high : x ≤ (prices_call t (P.label_of (labelled p) stack)).most
  pub one : Lone (labelled p) (prices_at p) stack → prices_call t (P.label_of (labelled p) stack) ≡ record { refusal = 0; least = x; most = x }

-- THE PRICE OF EACH STEP LIES BETWEEN WHAT `prices` ANSWERS FOR ITS LABEL, AND IS BOTH WHERE NO IF STANDS IN AN ATOMIC BLOCK.
pub prices_between : (t : List ℕ) (p : Program Plain) (ts : List ℕ) → Bytes t → verdict concurrent t ≡ accepted p
    → (k x : ℕ) → at (prices_of p ts) k ≡ is x → Between t p ts k x
prices_between t p ts bytes e k x z =
    let read : (t ≡ table concurrent p) × Sound concurrent p = (accepted_exactly concurrent t bytes p).0 e in
    let g : Taken (labelled p) (prices_at p) (known p read.1) ts (P.start (labelled p)) 0 [] k x
    = taken (labelled p) (prices_at p) (known p read.1) ts (P.start (labelled p)) 0 [] (started p read.1 p.mains) k x z in
    let q : Priced (labelled p) (prices_at p) g.stack x = g.priced in
    let told : prices_call t (P.label_of (labelled p) g.stack) ≡ record { refusal = 0; least = q.prices.least; most = q.prices.most } =
    ap (λ v. prices_as v (P.label_of (labelled p) g.stack)) e ∙ ap (answered 0) q.found
    in
    record {
      thread = g.thread;
      stack = g.stack;
      entry = g.entry;
      there = g.there;
      low = rw told q.within.low;
      high = rw told q.within.high;
      one = λ h. told ∙ lone q.prices q.within (q.one h);
    }
  where
    -- one price
    lone : (a : Prices) → Within x a → a.least ≡ a.most → ◌≡◌ {A = PricesAnswer} (record { refusal = 0; least = a.least; most = a.most }) (record { refusal = 0; least = x; most = x })
    lone a w h =
        let l : a.least ≡ x = omega (arith, w.low, w.high) in
        let m : a.most ≡ x = omega (arith, w.low, w.high) in
        λ i. record { refusal = 0; least = l i; most = m i }
