-- Procedure 0 of the copy is right.
use Rattle.std.specs.Prelude.{ℕ, zero, suc, ◌+◌, ◌^◌, ◌≤◌, ◌<◌, ◌≡◌, refl, List, [], ◌∷◌, true, false, length}
use Rattle.std.proofs.Common.{arith}
use Rattle.value.specs.Values.{equal, and}
use Rattle.value.specs.declared.Value.TheVariants.{Truth}
use Rattle.value.proofs.Laws.Tests.{pass_both}
use Rattle.value.proofs.Laws.Lists.{Each}
use Rattle.format.specs.Syntax.{Expr, constant, local, two, assign, write, read, Block, end, Program, Plain, sequential}
use Rattle.format.specs.Rules.{Here, Known, with, max_labels}
use Rattle.format.proofs.Laws.Names.{Takes}
use Rattle.format.proofs.Laws.Sets.{◌⊆◌, and_more, set_there, set_more}
use Rattle.translation.specs.Layout.{Layout}
use Rattle.translation.specs.Code.{◌then◌, tmp, num, loc}
use Rattle.translation.specs.Translate.{stmt, terminated, for_each, switch, round, interleavings}
use Rattle.translation.proofs.Laws.Right.{Given, num_given, loc_given, local_given}
use Rattle.translation.proofs.Laws.Right.{Right, end_right, assign_right, write_right, read_right, if_right}
use Rattle.translation.proofs.Laws.Right.{while_right, call_right, select_right}

-- where procedure 0 stands
abbrev pub top : Here
top = record { kind = sequential; proc = 0; inside = false }

-- what procedure 0 asks of the copy p, with L labels: its locations and the procedures that it calls
pub record Stage (p : Program Plain) (G : Layout) (begin : ℕ → ℕ) (L : ℕ) : Type 0 where
  pub ptid : G.ptid < length p.sizes
  pub pct : G.pct < length p.sizes
  pub labels : L ≤ max_labels
  pub callee : (l : ℕ) → 1 ≤ l → l ≤ L → Takes p.procs l 1

-- a main: its "from" is a location, and its beginning a label
pub record Main (p : Program Plain) (G : Layout) (begin : ℕ → ℕ) (m : ℕ) : Type 0 where
  pub from : G.from m < length p.sizes
  pub start : begin m < 2 ^ 31

-- its calls go to procedures after it
abbrev pub After : ℕ → Type 0
After c = 1 ≤ c

module _ {p : Program Plain} {G : Layout} {begin : ℕ → ℕ} {L : ℕ} (stage : Stage p G begin L) where
  -- code of procedure 0 that is right
  abbrev Fine : ℕ → Known → Block Plain → Type 0
  Fine = Right p 4 top After

  -- an expression that may stand in it
  abbrev Stands : Known → Expr → Type 0
  Stands = Given p 4

  -- what follows is right wherever more is set
  abbrev Follows : ℕ → Known → Block Plain → Type 0
  Follows d s c = (u : Known) → s ⊆ u → Fine d u c

  -- for each thread: a step that is right before what follows it is right that often
  for_each_right : {d : ℕ} (f : ℕ → ℕ → Block Plain → Block Plain) (base : Known)
      → ((t m : ℕ) (c : Block Plain) (s : Known) → t < 2 ^ 31 → Main p G begin m → base ⊆ s → Follows d s c → Fine d s (f t m c))
      → (ms : List ℕ) (t : ℕ) (c : Block Plain) (s : Known) → Each (Main p G begin) ms → t + length ms < 2 ^ 31 → base ⊆ s → Follows d s c
      → Fine d s (for_each f t ms c)
  for_each_right f base each [] t c s h room more r = r s (λ x e. e)
  for_each_right f base each (m ∷ ms) t c s h room more r =
      each t m _ s (omega arith) h.0 more λ u i.
      for_each_right f base each ms (suc t) c u h.1 (omega arith) (and_more more i) λ v j.
      r v (and_more i j)

  -- if stmt = l, call l with tid
  switch_right : {d : ℕ} (k l : ℕ) (c : Block Plain) (s : Known) → 1 ≤ d → 1 ≤ l → l + k ≤ suc L → s 0 ≡ true → s stmt ≡ true → Follows (suc d) s c
      → Fine (suc d) s (switch l k c)
  switch_right zero l c s deep low high who what r = r s (λ x e. e)
  switch_right (suc k) l c s deep low high who what r =
      if_right _ _ _ test
      (call_right l (local 0 ∷ []) (stage.callee l low (omega arith)) refl low (local_given 0 (omega arith) who, tt) (end_right deep))
      (end_right deep)
      (λ u i. switch_right k (suc l) c u deep (omega arith) (omega arith) (i 0 who) (i stmt what) (λ v j. r v (and_more i j)))
    where
      test : Stands s (two equal (local stmt) (num l))
      test =
          record {
            right = record { deep = omega arith; wholes = (tt, omega (arith, stage.labels)) };
            named = (omega arith, tt);
            known = pass_both what refl;
          }

  module _ (mains : List ℕ) (right : Each (Main p G begin) mains) (few : length mains < 2 ^ 31) {d : ℕ} (deep : 1 ≤ d) where
    -- is each thread finished
    finished_right : (s : Known) → s tmp ≡ true → s terminated ≡ true
        → Fine (suc d) s
        (for_each (λ t m c.
        read stmt tmp (num t)
        then assign terminated (two and (local terminated) (two equal (local stmt) (num 0)))
        then c) 0 mains end)
    finished_right s at on = for_each_right _ s each mains 0 end s right (omega arith) (λ x e. e) (λ u _. end_right (omega arith))
      where
        each : (t m : ℕ) (c : Block Plain) (u : Known) → t < 2 ^ 31 → Main p G begin m → s ⊆ u → Follows (suc d) u c
            → Fine (suc d) u (read stmt tmp (num t) then assign terminated (two and (local terminated) (two equal (local stmt) (num 0))) then c)
        each t m c u h main more r =
            let v : Known = with u stmt in
            read_right stmt tmp (num t) (omega arith) (omega arith) (more tmp at) (num_given t h)
            (assign_right terminated _ (omega arith)
            (record {
              right =
                  record { deep = omega arith; wholes = (tt, (tt, omega arith)) };
              named =
                  (omega arith, (omega arith, tt));
              known =
                  pass_both (set_more u stmt terminated (more terminated on)) (pass_both (set_there u stmt) refl);
            })
            (r (with v terminated) (and_more (set_more u stmt) (set_more v terminated))))

    -- one round of the loop
    round_right : (s : Known) → Fine (suc d) s (round G mains L)
    round_right s =
        let s₁ : Known = with s tmp in
        let s₂ : Known = with s₁ 0 in
        let s₃ : Known = with s₂ tmp in
        let s₄ : Known = with s₃ stmt in
        let who : s₃ 0 ≡ true = set_more s₂ tmp 0 (set_there s₁ 0) in
        select_right G.ptid G.pct stage.ptid stage.pct refl refl
        (assign_right tmp (loc G.ptid) (omega arith) (loc_given G.ptid stage.ptid)
        (read_right 0 tmp (num 0) (omega arith) (omega arith) (set_there s tmp) (num_given 0 (omega arith))
        (assign_right tmp (loc G.pct) (omega arith) (loc_given G.pct stage.pct)
        (read_right stmt tmp (local 0) (omega arith) (omega arith) (set_there s₂ tmp) (local_given 0 (omega arith) who)
        (switch_right L 1 _ s₄ deep (omega arith) (omega arith) (set_more s₃ stmt 0 who) (set_there s₃ stmt) λ u i.
        assign_right terminated (constant (Truth true)) (omega arith)
        (record { right = record { deep = omega arith; wholes = tt }; named = tt; known = refl })
        (assign_right tmp (loc G.pct) (omega arith) (loc_given G.pct stage.pct)
        (finished_right (with (with u terminated) tmp) (set_there (with u terminated) tmp)
        (set_more (with u terminated) tmp terminated (set_there u terminated)))))))))

    -- the whole body
    pub interleavings_right : (s : Known) → Fine (suc (suc d)) s (interleavings G begin mains L)
    interleavings_right s =
        let s₁ : Known = with s tmp in
        assign_right tmp (loc G.pct) (omega arith) (loc_given G.pct stage.pct)
        (for_each_right _ s₁ starts mains 0 _ s₁ right (omega arith) (λ x e. e) λ u i.
        for_each_right _ u froms mains 0 _ u right (omega arith) (λ x e. e) λ v j.
        assign_right terminated (constant (Truth false)) (omega arith)
        (record { right = record { deep = omega arith; wholes = tt }; named = tt; known = refl })
        (while_right _ _ refl (record { right = record { deep = omega arith; wholes = tt }; named = omega arith; known = set_there v terminated })
        (round_right (with v terminated))
        (λ w _. end_right (omega arith))))
      where
        starts : (t m : ℕ) (c : Block Plain) (u : Known) → t < 2 ^ 31 → Main p G begin m → with s tmp ⊆ u → Follows (suc (suc d)) u c
            → Fine (suc (suc d)) u (write tmp (num t) (num (begin m)) then c)
        starts t m c u h main more r =
            write_right tmp (num t) (num (begin m)) (omega arith) (more tmp (set_there s tmp)) (num_given t h) (num_given (begin m) main.start)
            (r u (λ x e. e))

        froms : {base : Known} (t m : ℕ) (c : Block Plain) (u : Known) → t < 2 ^ 31 → Main p G begin m → base ⊆ u → Follows (suc (suc d)) u c
            → Fine (suc (suc d)) u (assign tmp (loc (G.from m)) then write tmp (num t) (num 0) then c)
        froms t m c u h main more r =
            assign_right tmp (loc (G.from m)) (omega arith) (loc_given (G.from m) main.from)
            (write_right tmp (num t) (num 0) (omega arith) (set_there u tmp) (num_given t h) (num_given 0 (omega arith))
            (r (with u tmp) (set_more u tmp)))
