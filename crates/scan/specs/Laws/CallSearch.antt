-- Rule 7, procedure by procedure: the way to here, and what was left behind reaches no cycle.
use Rattle.std.specs.Prelude.{ℕ, zero, suc, ◌+◌, ◌-◌, ◌≤◌, ◌<◌, ◌≡◌, refl, ◌≢◌, List, [], ◌∷◌, true, false, length, get_or, set, replicate, map, eqb}
use native.Mathlib.Omega.{arith}
use Rattle.std.proofs.Common.{sym, ap, subst, ◌∙◌, below_more, eqb-true, length-set, get_or-set_same, get_or-set_other}
use Rattle.std.proofs.lemmas.Bool.{eqb-false}
use Rattle.value.proofs.Laws.Tests.{by_test, never}
use Rattle.std.proofs.Math.Bool as B
use denote.Enum.Bare.{sameb}
use Rattle.scan.specs.contracts.calls.State.{the_type}
use Rattle.scan.specs.declared.calls.State.{State}
use Rattle.scan.specs.declared.calls.State.TheVariants as V
use Rattle.scan.specs.declared.calls.Visit.{Visit}
use Rattle.scan.specs.declared.tokens.Token.{Token}
use Rattle.scan.specs.declared.tokens.Token.TheVariants as T
use Rattle.format.specs.Syntax.{sequential}
use Rattle.format.specs.Syntax.{Program, Plain}
use Rattle.format.specs.Rules.{no_cycle, limits}
use Rattle.format.proofs.Laws.TablePlaces.{body_at}
use Rattle.format.proofs.Laws.Calls.{Calls, Reaches, no_cycle?}
use Rattle.scan.specs.Tokens.{token_at, tokens}
use Rattle.scan.specs.Laws.Laid.{Named, Room, Judges, proc_of, body_row, BodyStarts, BodyEnds}
use Rattle.scan.specs.Laws.CallScans.{block_calls, NextCall, on_is_call, on_not_left}
use Rattle.scan.specs.Laws.CallEnds.{Ends, ends_apart, callees_of_lem, calls_there_lem, reaches_below, Part, further, all_ended, called, climbs}

-- ---- states

-- no state is another one
abbrev number : State → ℕ
number V.New = 0
number V.Entered = 1
number V.Left = 2

apart : {x y : State} → (number x ≡ number y → ⊥) → x ≢ y
apart n e = n (ap number e)

-- the procedures that were not entered
abbrev pub news : List State → ℕ
news [] = 0
news (V.New ∷ xs) = suc (news xs)
news (V.Entered ∷ xs) = news xs
news (V.Left ∷ xs) = news xs

-- one is entered
news_entered : (xs : List State) (i : ℕ) → i < length xs → get_or xs i V.New ≡ V.New → suc (news (set xs i V.Entered)) ≡ news xs
news_entered [] i l e = absurd (omega arith)
news_entered (V.New ∷ xs) zero l e = refl
news_entered (V.Entered ∷ xs) zero l e = absurd (apart (λ n. omega (arith, n)) e)
news_entered (V.Left ∷ xs) zero l e = absurd (apart (λ n. omega (arith, n)) e)
news_entered (V.New ∷ xs) (suc i) l e = ap suc (news_entered xs i (omega arith) e)
news_entered (V.Entered ∷ xs) (suc i) l e = news_entered xs i (omega arith) e
news_entered (V.Left ∷ xs) (suc i) l e = news_entered xs i (omega arith) e

-- one is left
news_left : (xs : List State) (i : ℕ) → news (set xs i V.Left) ≤ news xs
news_left [] i = omega arith
news_left (V.New ∷ xs) zero = omega arith
news_left (V.Entered ∷ xs) zero = omega arith
news_left (V.Left ∷ xs) zero = omega arith
news_left (V.New ∷ xs) (suc i) = omega (arith, news_left xs i)
news_left (V.Entered ∷ xs) (suc i) = news_left xs i
news_left (V.Left ∷ xs) (suc i) = news_left xs i

-- all are new
news_all : (n : ℕ) → news (replicate n V.New) ≡ n
news_all zero = refl
news_all (suc n) = ap suc (news_all n)

-- each is
new_all : (n m : ℕ) → get_or {A = State} (replicate n V.New) m V.New ≡ V.New
new_all zero m = refl
new_all (suc n) zero = refl
new_all (suc n) (suc m) = new_all n m

-- ---- the way

-- the procedures on it
abbrev pub procs_on : List Visit → List ℕ
procs_on way = map (λ v. v.procedure) way

-- and the places where their walks go on
abbrev pub places_on : List Visit → List ℕ
places_on way = map (λ v. v.at) way

-- a visit of procedure m that begins where its body does
pub record Begins (t : List ℕ) (P R m : ℕ) (v : Visit) : Type 0 where
  pub procedure : v.procedure ≡ m
  pub start : BodyStarts t P R m v.at

-- ---- the search

-- what the states and the way say of a program; procedures before `first` were left
pub record Holds (t : List ℕ) (P : ℕ) (states : List State) (way places : List ℕ) (d first : ℕ) (p : Program Plain) : Type 0 where
  pub past : (m : ℕ) → m < first → Ends p.procs m
  pub ended : (m : ℕ) → m < P → get_or states m V.New ≡ V.Left → Ends p.procs m
  pub entered : (m : ℕ) → m < P → get_or states m V.New ≡ V.Entered → (j : ℕ) × (j < d) × (get_or way j 0 ≡ m)
  pub calls : (j : ℕ) → j + 1 < d → Calls p.procs (get_or way j 0) (get_or way (j + 1) 0)
  pub part : (j : ℕ) → j < d → Part t p (get_or way j 0) (get_or places j 0)

-- the state of the search
pub record Search (t : List ℕ) (P R : ℕ) (states : List State) (way places : List ℕ) (d first : ℕ) : Type 0 where
  pub marked : length states ≡ (limits sequential).procs
  pub ways : length way ≡ (limits sequential).procs
  pub placed : length places ≡ (limits sequential).procs
  pub few : P ≤ (limits sequential).procs
  pub room : news states + d ≤ (limits sequential).procs
  pub procs : (j : ℕ) → j < d → get_or way j 0 < P
  pub holds : (p : Program Plain) → Named t P R p → Holds t P states way places d first p

-- what is left to do
unfoldable pub to_do : ℕ → List State → ℕ → ℕ → ℕ
to_do P states d first = (P - first) + (news states + news states + d)

-- a list of numbers after a store
stored : (P : ℕ → Type 0) (xs : List ℕ) (i x : ℕ) → i < length xs → (j : ℕ) → (j ≡ i → P x) → (j ≢ i → P (get_or xs j 0)) → P (get_or (set xs i x) j 0)
stored P xs i x l j new old =
    by_test (eqb j i)
    (λ e. let same : j ≡ i = eqb-true j i e in rw (same, get_or-set_same xs i x 0 l) (new same))
    (λ e. let other : j ≢ i = eqb-false j i e in rw (get_or-set_other xs i j x 0 other) (old other))

-- a stored state is none of the others
marked_else : (xs : List State) (i : ℕ) (x y : State) (j : ℕ) → i < length xs → x ≢ y → get_or (set xs i x) j V.New ≡ y → (j ≢ i) × (get_or xs j V.New ≡ y)
marked_else xs i x y j l differ =
    by_test (eqb j i)
    (λ e. rw (eqb-true j i e, get_or-set_same xs i x V.New l) (λ h. absurd (differ h)))
    (λ e. let other : j ≢ i = eqb-false j i e in rw (get_or-set_other xs i j x V.New other) (λ h. (other, h)))

-- one that was entered and not left is on the way
by_state : {G : Type 0} (x : State) → x ≢ V.New → (x ≡ V.Entered → G) → (x ≡ V.Left → G) → G
by_state V.New n entered left = absurd (n refl)
by_state V.Entered n entered left = entered refl
by_state V.Left n entered left = left refl

module _ {t : List ℕ} {P R : ℕ} where
  -- where the search begins
  pub search_start : Room t P R
      → Search t P R (replicate (limits sequential).procs V.New) (replicate (limits sequential).procs 0) (replicate (limits sequential).procs 0) 0 0
  search_start room = record {
    marked = refl;
    ways = refl;
    placed = refl;
    few = room.few;
    room = omega (arith, news_all (limits sequential).procs);
    procs = λ j l. absurd (omega arith);
    holds = λ p named. record {
      past = λ m l. absurd (omega arith);
      ended = λ m l e. absurd (apart (λ n. omega (arith, n)) (sym (new_all (limits sequential).procs m) ∙ e));
      entered = λ m l e. absurd (apart (λ n. omega (arith, n)) (sym (new_all (limits sequential).procs m) ∙ e));
      calls = λ j l. absurd (omega arith);
      part = λ j l. absurd (omega arith);
    };
  }

  module _ {states : List State} {way places : List ℕ} {d first : ℕ} (S : Search t P R states way places d first) where
    -- procedure `first` was left
    pub search_past : d ≡ 0 → first < P → get_or states first V.New ≢ V.New → Search t P R states way places d (first + 1)
    search_past none below old = record {
      marked = S.marked;
      ways = S.ways;
      placed = S.placed;
      few = S.few;
      room = S.room;
      procs = S.procs;
      holds = λ p named. record {
        past = below_more (λ m. Ends p.procs m) first (S.holds p named).past (left p named);
        ended = (S.holds p named).ended;
        entered = (S.holds p named).entered;
        calls = (S.holds p named).calls;
        part = (S.holds p named).part;
      };
    }
      where
        left : (p : Program Plain) → Named t P R p → Ends p.procs first
        left p named =
            by_state (get_or states first V.New) old
            (λ e. let h : (j : ℕ) × (j < d) × (get_or way j 0 ≡ first) = (S.holds p named).entered first below e in absurd (omega (arith, h.1)))
            (λ e. (S.holds p named).ended first below e)

    -- what is to be looked at of procedure m
    whole_part : (p : Program Plain) → Named t P R p → (m : ℕ) → m < P → {b : ℕ} → BodyStarts t P R m b → Part t p m b
    whole_part p named m l start = record {
      before = [];
      after = tokens (proc_of p m).body;
      whole = callees_of_lem named l ∙ sym (block_calls (proc_of p m).body);
      ended = tt;
      row = rw (start.gives p named.laid) (body_row named.laid l);
    }

    -- a procedure is entered, which is the first one, or is called by the one before
    entering : (places2 : List ℕ) (c b : ℕ) → length places2 ≡ (limits sequential).procs → c < P → get_or states c V.New ≡ V.New
        → BodyStarts t P R c b
        → ((p : Program Plain) → Named t P R p → (j : ℕ) → j < d → Part t p (get_or way j 0) (get_or places2 j 0))
        → ((p : Program Plain) → Named t P R p → (j : ℕ) → j + 1 ≡ d → Calls p.procs (get_or way j 0) c)
        → Search t P R (set states c V.Entered) (set way d c) (set places2 d b) (d + 1) first
    entering places2 c b long below new start parts called = record {
      marked = length-set states c V.Entered ∙ S.marked;
      ways = length-set way d c ∙ S.ways;
      placed = length-set places2 d b ∙ long;
      few = S.few;
      room = omega (arith, news_entered states c inside new, S.room);
      procs = λ j l. stored (λ x. x < P) way d c deep j (λ _. below) (λ n. S.procs j (omega arith));
      holds = λ p named. record {
        past = (S.holds p named).past;
        ended = λ m l e. let h = marked_else states c V.Entered V.Left m inside (apart (λ n. omega (arith, n))) e in (S.holds p named).ended m l h.1;
        entered = λ m l. stand m ((S.holds p named).entered m l);
        calls = λ j l. stored (λ x. Calls p.procs (get_or (set way d c) j 0) x) way d c deep (j + 1)
            (λ last. earlier (λ x. Calls p.procs x c) j (omega arith) (called p named j last))
            (λ n. earlier (λ x. Calls p.procs x (get_or way (j + 1) 0)) j (omega arith) ((S.holds p named).calls j (omega arith)));
        part = λ j l. by_test (eqb j d)
            (λ e. rw (eqb-true j d e, get_or-set_same way d c 0 deep, get_or-set_same places2 d b 0 (omega (arith, long, S.ways, deep))) (whole_part p named c below start))
            (λ e. let other : j ≢ d = eqb-false j d e in
            rw (get_or-set_other way d j c 0 other, get_or-set_other places2 d j b 0 other) (parts p named j (omega arith)));
      };
    }
      where
        inside : c < length states
        inside = omega (arith, S.marked, S.few)

        deep : d < length way
        deep = omega (arith, S.ways, S.room, news_entered states c inside new)

        -- those below stay
        earlier : (Q : ℕ → Type 0) (j : ℕ) → j < d → Q (get_or way j 0) → Q (get_or (set way d c) j 0)
        earlier Q j l q = rw (get_or-set_other way d j c 0 (λ e. omega arith)) q

        -- an entered one is on the way
        stand : (m : ℕ) → (get_or states m V.New ≡ V.Entered → (j : ℕ) × (j < d) × (get_or way j 0 ≡ m)) → get_or (set states c V.Entered) m V.New ≡ V.Entered
            → (j : ℕ) × (j < d + 1) × (get_or (set way d c) j 0 ≡ m)
        stand m old e =
            by_test (eqb m c)
            (λ q. (d, omega arith, get_or-set_same way d c 0 deep ∙ sym (eqb-true m c q)))
            (λ q. let other : m ≢ c = eqb-false m c q in
            let h : (j : ℕ) × (j < d) × (get_or way j 0 ≡ m) = old (sym (get_or-set_other states c m V.Entered V.New other) ∙ e) in
            (h.0, omega (arith, h.1), get_or-set_other way d h.0 c 0 (λ q. omega (arith, h.1)) ∙ h.2))

    -- procedure `first` is entered
    pub search_first : {b : ℕ} → d ≡ 0 → first < P → get_or states first V.New ≡ V.New → BodyStarts t P R first b
        → Search t P R (set states first V.Entered) (set way 0 first) (set places 0 b) 1 first
    search_first {b} none below new start =
        subst (λ n. Search t P R (set states first V.Entered) (set way n first) (set places n b) (n + 1) first) none
        (entering places first b S.placed below new start (λ p named j l. absurd (omega arith)) (λ p named j l. absurd (omega arith)))

    -- ---- the procedure at the end of the way

    module _ {top m e at : ℕ} (deep : d ≢ 0) (last : top ≡ d - 1) (on-top : m ≡ get_or way top 0) (E : BodyEnds t P R m e)
        (N : NextCall t e states (get_or places top 0) at) where
      -- it is there
      top_below : m < P
      top_below = rw on-top (S.procs top (omega arith))

      -- it is looked at up to the next call
      top_part : (p : Program Plain) → Named t P R p → Part t p m at
      top_part p named =
          further p named (S.holds p named).ended top_below (E.gives p named.laid) (rw on-top ((S.holds p named).part top (omega arith))) N

      -- no call is left in it
      pub search_leave : e ≤ at → Search t P R (set states m V.Left) way places top first
      search_leave over = record {
        marked = length-set states m V.Left ∙ S.marked;
        ways = S.ways;
        placed = S.placed;
        few = S.few;
        room = omega (arith, news_left states m, S.room);
        procs = λ j l. S.procs j (omega arith);
        holds = λ p named. record {
          past = (S.holds p named).past;
          ended = λ x l. by_test (eqb x m)
              (λ q _. rw (eqb-true x m q) (left p named))
              (λ q h. let other : x ≢ m = eqb-false x m q in (S.holds p named).ended x l (sym (get_or-set_other states m x V.Left V.New other) ∙ h));
          entered = λ x l h. let w = marked_else states m V.Left V.Entered x inside (apart (λ n. omega (arith, n))) h in stays x w.0 ((S.holds p named).entered x l w.1);
          calls = λ j l. (S.holds p named).calls j (omega arith);
          part = λ j l. (S.holds p named).part j (omega arith);
        };
      }
        where
          inside : m < length states
          inside = omega (arith, S.marked, S.few, top_below)

          at_end : at ≡ e
          at_end = omega (arith, N.within)

          left : (p : Program Plain) → Named t P R p → Ends p.procs m
          left p named = all_ended p m (rw (at_end ∙ E.gives p named.laid) at (top_part p named))

          stays : (x : ℕ) → x ≢ m → (j : ℕ) × (j < d) × (get_or way j 0 ≡ x) → (j : ℕ) × (j < top) × (get_or way j 0 ≡ x)
          stays x other (j, l, h) =
              by_test (eqb j top)
              (λ q. absurd (other (sym h ∙ ap (λ i. get_or way i 0) (eqb-true j top q) ∙ sym on-top)))
              (λ q. let below : j ≢ top = eqb-false j top q in (j, omega arith, h))

      -- the next call is of a procedure that is there
      top_calls : (p : Program Plain) → Named t P R p → {k : Token} {c n : ℕ} → at < e → k ≡ token_at t at → k ≡ T.Call c n → Calls p.procs m c
      top_calls p named l token is_call =
          let part : Part t p m at = top_part p named in
          let ends_at : e ≡ body_at p.procs (m + 1) = E.gives p named.laid in
          called p part (omega (arith, ends_at)) (sym token ∙ is_call)

      -- it is entered
      pub search_enter : {k : Token} {c n b : ℕ} → at < e → k ≡ token_at t at → k ≡ T.Call c n → c < P → get_or states c V.New ≡ V.New
          → BodyStarts t P R c b → Search t P R (set states c V.Entered) (set way d c) (set (set places top at) d b) (d + 1) first
      search_enter {k} {c} {n} {b} l token is_call below new start =
          entering (set places top at) c b (length-set places top at ∙ S.placed) below new start parts calls
        where
          inside : top < length places
          inside = omega (arith, S.placed, S.room)

          parts : (p : Program Plain) → Named t P R p → (j : ℕ) → j < d → Part t p (get_or way j 0) (get_or (set places top at) j 0)
          parts p named j h = stored (λ x. Part t p (get_or way j 0) x) places top at inside j
              (λ q. rw (q, ← on-top) (top_part p named))
              (λ q. (S.holds p named).part j h)

          calls : (p : Program Plain) → Named t P R p → (j : ℕ) → j + 1 ≡ d → Calls p.procs (get_or way j 0) c
          calls p named j h = let same : j ≡ top = omega arith in rw (same, ← on-top) (top_calls p named l token is_call)

      -- something is amiss if the next call is none
      pub search_odd : {k : Token} → at < e → k ≡ token_at t at → ((c n : ℕ) → k ≢ T.Call c n) → Judges (Named t P R) no_cycle false
      search_odd l token other = record { gives = λ p named. absurd (on_is_call states _ (N.here l) (λ c n q. other c n (token ∙ q))) }

      -- or is of a procedure that is not there
      pub search_far : {k : Token} {c n : ℕ} → at < e → k ≡ token_at t at → k ≡ T.Call c n → P ≤ c → Judges (Named t P R) no_cycle false
      search_far l token is_call far = record { gives = λ p named. absurd (omega (arith, calls_there_lem named _ _ (top_calls p named l token is_call))) }

      -- a procedure on the way is called: it reaches itself
      pub search_cycle : {k : Token} {c n : ℕ} → at < e → k ≡ token_at t at → k ≡ T.Call c n → c < P → get_or states c V.New ≢ V.New
          → Judges (Named t P R) no_cycle false
      search_cycle {k} {c} {n} l token is_call below old = record { gives = λ p named. cycle p named }
        where
          not_left : get_or states c V.New ≢ V.Left
          not_left = on_not_left states c n (rw (← token, is_call) at (N.here l)) (omega (arith, S.few))

          cycle : (p : Program Plain) → Named t P R p → false ≡ no_cycle p
          cycle p named =
              let w : (j : ℕ) × (j < d) × (get_or way j 0 ≡ c) =
              by_state (get_or states c V.New) old ((S.holds p named).entered c below) (λ e. absurd (not_left e)) in
              let r : Reaches p.procs (get_or way w.0 0) c
              = climbs way p (S.holds p named).calls w.0 (top - w.0) (omega (arith, w.1))
              (let same : w.0 + (top - w.0) ≡ top = omega (arith, w.1) in rw (same, ← on-top) (top_calls p named l token is_call)) in
              by_test (no_cycle p) (λ q. absurd ((no_cycle? p).so q c (rw w.2 at r))) (λ q. sym q)

    -- ---- indices are in range, and numbers fit

    -- a procedure that is entered has a place on the way
    pub way_room : {c : ℕ} → c < P → get_or states c V.New ≡ V.New → d < (limits sequential).procs
    way_room {c} l new = omega (arith, S.room, news_entered states c (omega (arith, S.marked, S.few)) new)

    -- the one at the end of the way
    pub way_top : {top : ℕ} → d ≢ 0 → top ≡ d - 1 → get_or way top 0 < P
    way_top {top} deep last = S.procs top (omega arith)

    -- has a mark
    pub way_mark : {top : ℕ} → d ≢ 0 → top ≡ d - 1 → get_or way top 0 < (limits sequential).procs
    way_mark deep last = omega (arith, S.few, way_top deep last)

    -- all were left
    pub search_end : P ≤ first → Judges (Named t P R) no_cycle true
    search_end l = record {
      gives = λ p named. sym ((no_cycle? p).of (λ m r.
          ends_apart p.procs m ((S.holds p named).past m (let b : m < P = reaches_below named r in omega arith)) r));
    }

    -- ---- each step leaves less to do

    -- a procedure is entered
    pub less_enter : {c : ℕ} → c < P → get_or states c V.New ≡ V.New → to_do P (set states c V.Entered) (d + 1) first < to_do P states d first
    unfolding to_do
    less_enter {c} l new = omega (arith, news_entered states c (omega (arith, S.marked, S.few)) new)

    -- the first one
    pub less_first : first < P → d ≡ 0 → get_or states first V.New ≡ V.New → to_do P (set states first V.Entered) 1 first < to_do P states d first
    unfolding to_do
    less_first l none new = omega (arith, news_entered states first (omega (arith, S.marked, S.few)) new)

    -- one is left
    pub less_leave : (m : ℕ) {top : ℕ} → d ≢ 0 → top ≡ d - 1 → to_do P (set states m V.Left) top first < to_do P states d first
    unfolding to_do
    less_leave m deep last = omega (arith, news_left states m)

    -- one was left before
    pub less_past : first < P → to_do P states d (first + 1) < to_do P states d first
    unfolding to_do
    less_past l = omega arith

-- ---- the way as visits

-- a list of numbers of visits after a store
map_set : (f : Visit → ℕ) (way : List Visit) (i : ℕ) (v : Visit) → map f (set way i v) ≡ set (map f way) i (f v)
map_set f [] i v = refl
map_set f (w ∷ way) zero v = refl
map_set f (w ∷ way) (suc i) v = ap (f w ∷◌) (map_set f way i v)

-- a test of a state
pub is_new : (x : State) → true ≡ sameb the_type x V.New → x ≡ V.New
is_new V.New e = refl
is_new V.Entered e = absurd (never (sym e))
is_new V.Left e = absurd (never (sym e))

pub is_old : (x : State) → true ≡ B.not (sameb the_type x V.New) → x ≢ V.New
is_old V.New e = absurd (never (sym e))
is_old V.Entered e = apart (λ n. omega (arith, n))
is_old V.Left e = apart (λ n. omega (arith, n))

pub not_old : (x : State) → false ≡ B.not (sameb the_type x V.New) → x ≡ V.New
not_old V.New e = refl
not_old V.Entered e = absurd (never e)
not_old V.Left e = absurd (never e)

-- no visit
abbrev pub nowhere : Visit
nowhere = record { procedure = 0; at = 0 }

-- one of them
map_at : (f : Visit → ℕ) → f nowhere ≡ 0 → (way : List Visit) (i : ℕ) → get_or (map f way) i 0 ≡ f (get_or way i nowhere)
map_at f none [] i = sym none
map_at f none (w ∷ way) zero = refl
map_at f none (w ∷ way) (suc i) = map_at f none way i

-- a number is stored where it stands
set_own : (xs : List ℕ) (i : ℕ) → set xs i (get_or xs i 0) ≡ xs
set_own [] i = refl
set_own (x ∷ xs) zero = refl
set_own (x ∷ xs) (suc i) = ap (x ∷◌) (set_own xs i)

module _ {t : List ℕ} {P R : ℕ} {states : List State} (way : List Visit) {d first : ℕ} (S : Search t P R states (procs_on way) (places_on way) d first) where
  -- the procedure at the end of the way is there
  pub visited : {m : ℕ} → d ≢ 0 → m ≡ (get_or way (d - 1) nowhere).procedure → m < P
  visited deep is = rw (is ∙ sym (map_at (λ v. v.procedure) refl way (d - 1))) (way_top S deep refl)

  -- procedure `first` is entered
  pub visit_first : {v : Visit} → d ≡ 0 → first < P → get_or states first V.New ≡ V.New → Begins t P R first v
      → Search t P R (set states first V.Entered) (procs_on (set way 0 v)) (places_on (set way 0 v)) 1 first
  visit_first {v} none below new B =
      rw (map_set (λ v. v.procedure) way 0 v, map_set (λ v. v.at) way 0 v, B.procedure) (search_first S none below new B.start)

  module _ {m e from at : ℕ} (deep : d ≢ 0) (on-top : m ≡ (get_or way (d - 1) nowhere).procedure) (E : BodyEnds t P R m e)
      (here : from ≡ (get_or way (d - 1) nowhere).at) (N : NextCall t e states from at) where
    top_is : m ≡ get_or (procs_on way) (d - 1) 0
    top_is = on-top ∙ sym (map_at (λ v. v.procedure) refl way (d - 1))

    next_is : NextCall t e states (get_or (places_on way) (d - 1) 0) at
    next_is = rw (map_at (λ v. v.at) refl way (d - 1), ← here) N

    -- the one at the end is left
    pub visit_leave : e ≤ at → Search t P R (set states m V.Left) (procs_on way) (places_on way) (d - 1) first
    visit_leave over = search_leave S deep refl top_is E next_is over

    -- one that it calls is entered
    pub visit_enter : {k : Token} {c n : ℕ} {v : Visit} → at < e → k ≡ token_at t at → k ≡ T.Call c n → c < P → get_or states c V.New ≡ V.New
        → Begins t P R c v
        → Search t P R (set states c V.Entered)
        (procs_on (set (set way (d - 1) (record { procedure = (get_or way (d - 1) nowhere).procedure; at = at })) d v))
        (places_on (set (set way (d - 1) (record { procedure = (get_or way (d - 1) nowhere).procedure; at = at })) d v)) (d + 1) first
    visit_enter {v = v} l token is_call below new B =
        let moved : Visit = record { procedure = (get_or way (d - 1) nowhere).procedure; at = at } in
        let kept : set (procs_on way) (d - 1) (get_or way (d - 1) nowhere).procedure ≡ procs_on way =
        ap (λ x. set (procs_on way) (d - 1) x) (sym (map_at (λ v. v.procedure) refl way (d - 1))) ∙ set_own (procs_on way) (d - 1)
        in
        rw (
          map_set (λ v. v.procedure) (set way (d - 1) moved) d v,
          map_set (λ v. v.at) (set way (d - 1) moved) d v,
          map_set (λ v. v.procedure) way (d - 1) moved,
          map_set (λ v. v.at) way (d - 1) moved,
          kept,
          B.procedure,
        ) (search_enter S deep refl top_is E next_is l token is_call below new B.start)

    -- something is amiss if the next call is none
    pub visit_odd : {k : Token} → at < e → k ≡ token_at t at → ((c n : ℕ) → k ≢ T.Call c n) → Judges (Named t P R) no_cycle false
    visit_odd l token other = search_odd S deep refl top_is E next_is l token other

    -- or is of a procedure that is not there
    pub visit_far : {k : Token} {c n : ℕ} → at < e → k ≡ token_at t at → k ≡ T.Call c n → P ≤ c → Judges (Named t P R) no_cycle false
    visit_far l token is_call far = search_far S deep refl top_is E next_is l token is_call far

    -- a procedure on the way is called
    pub visit_cycle : {k : Token} {c n : ℕ} → at < e → k ≡ token_at t at → k ≡ T.Call c n → c < P → get_or states c V.New ≢ V.New
        → Judges (Named t P R) no_cycle false
    visit_cycle l token is_call below old = search_cycle S deep refl top_is E next_is l token is_call below old

-- one law for each way
pub ruleset search_ways = (
  search_start,
  search_past,
  search_first,
  search_leave,
  search_enter,
  search_odd,
  search_far,
  search_cycle,
  search_end,
  less_enter,
  less_first,
  less_leave,
  less_past,
  way_room,
  way_top,
  way_mark,
)
