-- A translation worked by hand from document 01's table: program C, with a loop, a branch, a call and an atomic block.
use Rattle.std.specs.Prelude.{ℕ, ◌≡◌, refl, List, [], ◌∷◌, true, false}
use Rattle.value.specs.Values.{not, add, sub, less, equal, and}
use Rattle.value.specs.declared.Value.TheVariants.{Truth}
use Rattle.format.specs.Syntax.{Expr, constant, local, one, two, assign, write, read, while, if, call, atomic, select}
use Rattle.format.specs.Syntax.{Block, end, step, Proc, Program, Plain}
use Rattle.translation.specs.Layout.{layout}
use Rattle.translation.specs.Code.{◌then◌, num, loc, code}
use Rattle.translation.specs.Translate.{translate, begins}

-- ---- the program: one location of size 1, two threads

-- procedure 0, locals p, v: p := location 0; v := p[0]; while v < 2 { if v = 1 { call 1 (p) } else { }; p[0] := v + 1; v := p[0] };
-- atomic { v := 3; p[0] := v }. Procedure 1, parameter q: q[0] := 7. Labels 1 to 9, and 10 and 11.
abbrev pub C : Program Plain
C = record { procs = main ∷ called ∷ []; sizes = 1 ∷ []; mains = 0 ∷ 0 ∷ [] }
  where
    loop : Block Plain
    loop =
        if (two equal (local 1) (num 1)) (call 1 (local 0 ∷ []) then end) end then
        write 0 (num 0) (two add (local 1) (num 1)) then
        read 1 0 (num 0) then
        end

    main : Proc Plain
    main = record {
      params = 0;
      locals = 2;
      body =
          assign 0 (loc 0) then
          read 1 0 (num 0) then
          while (two less (local 1) (num 2)) loop then
          atomic (assign 1 (num 3) then write 0 (num 0) (local 1) then end) then
          end;
    }

    called : Proc Plain
    called = record { params = 1; locals = 1; body = write 0 (num 0) (num 7) then end }

-- ---- its copy: ptid 1, pct 2, from(0) 3, from(1) 4, p 5, v 6, q 7

-- tmp := location l; tmp[tid] := e
abbrev put : ℕ → Expr → Block Plain → Block Plain
put l e c = assign 1 (loc l) then write 1 (local 0) e then c

-- tmp := location l; x := tmp[tid]
abbrev load : ℕ → ℕ → Block Plain → Block Plain
load x l c = assign 1 (loc l) then read x 1 (local 0) then c

-- "pc"
abbrev pc : ℕ → Block Plain
pc l = put 2 (num l) end

-- "tmp := pct; if e, each branch holding one tmp[tid] := label"
abbrev test : Expr → ℕ → ℕ → Block Plain
test e l k = assign 1 (loc 2) then if e (write 1 (local 0) (num l) then end) (write 1 (local 0) (num k) then end) then end

-- "if stmt = l, call l with tid, else nothing"
abbrev when_at : ℕ → Block Plain → Block Plain
when_at l c = if (two equal (local 2) (num l)) (call l (local 0 ∷ []) then end) end then c

-- is thread t at label 0
abbrev ended : ℕ → Block Plain → Block Plain
ended t c = read 2 1 (num t) then assign 3 (two and (local 3) (two equal (local 2) (num 0))) then c

-- the loop's body in procedure 0
abbrev round : Block Plain
round =
    select 1 2 then
    assign 1 (loc 1) then
    read 0 1 (num 0) then
    assign 1 (loc 2) then
    read 2 1 (local 0) then
    when_at 1 (when_at 2 (when_at 3 (when_at 4 (when_at 5 (when_at 6 (when_at 7 (when_at 8 (when_at 9 (when_at 10 (when_at 11
    (assign 3 (constant (Truth true)) then
    assign 1 (loc 2) then
    ended 0 (ended 1 end))))))))))))

-- procedure 0: both threads begin at label 1
abbrev zeroth : Block Plain
zeroth =
    assign 1 (loc 2) then
    write 1 (num 0) (num 1) then
    write 1 (num 1) (num 1) then
    assign 1 (loc 3) then
    write 1 (num 0) (num 0) then
    assign 1 (loc 3) then
    write 1 (num 1) (num 0) then
    assign 3 (constant (Truth false)) then
    while (one not (local 3)) round then
    end

-- one procedure for each label: of procedure 0 with 3 + 2 locals, of procedure 1 with 3 + 1
abbrev copied : List (Proc Plain)
copied =
    record { params = 0; locals = 4; body = zeroth } ∷
    -- 1: p := location 0
    of 5 (put 5 (loc 0) (pc 2)) ∷
    -- 2: v := p[0]
    of 5 (load 3 5 (read 4 3 (num 0) then put 6 (local 4) (pc 3))) ∷
    -- 3: while v < 2: to the body, or past the loop
    of 5 (load 4 6 (test (two less (local 4) (num 2)) 4 8)) ∷
    -- 4: if v = 1: "An empty then or else leads to what follows the if"
    of 5 (load 4 6 (test (two equal (local 4) (num 1)) 5 6)) ∷
    -- 5: call 1 (p), after which comes what follows the if
    of 5 (load 3 5 (put 7 (local 3) (put 4 (num 6) (pc 10)))) ∷
    -- 6: p[0] := v + 1
    of 5 (load 4 6 (load 3 5 (write 3 (num 0) (two add (local 4) (num 1)) then pc 7))) ∷
    -- 7: v := p[0]: "After the last instruction of a while body comes the while"
    of 5 (load 3 5 (read 4 3 (num 0) then put 6 (local 4) (pc 3))) ∷
    -- 8: atomic: "its instructions in place without pc"
    of 5 (put 6 (num 3) (load 4 6 (load 3 5 (write 3 (num 0) (local 4) then pc 9)))) ∷
    -- 9: the end label of procedure 0
    of 5 (load 2 3 (put 2 (local 2) end)) ∷
    -- 10: q[0] := 7
    of 4 (load 3 7 (write 3 (num 0) (num 7) then pc 11)) ∷
    -- 11: the end label of procedure 1
    of 4 (load 2 4 (put 2 (local 2) end)) ∷
    []
  where
    of : ℕ → Block Plain → Proc Plain
    of n b = record { params = 1; locals = n; body = b }

-- "Loads go over distinct variables, rising": for a read "load o's k variables, load p", for a write "load e's j, then o's k, then p". In procedure 1
-- of C's layout, local x would be kept at 7 + x.
pub loads :
    -- x := y[x + z], of x 0, y 1, z 2
    (code (layout C) 1 3 (begins C) 12 (read 0 1 (two add (local 2) (local 0))) 13
    ≡ load 3 7 (load 5 9 (load 4 8 (read 3 4 (two add (local 5) (local 3)) then put 7 (local 3) (pc 13)))))
    -- y[x] := z - x
    × (code (layout C) 1 3 (begins C) 12 (write 1 (local 0) (two sub (local 2) (local 0))) 13
    ≡ load 3 7 (load 5 9 (load 3 7 (load 4 8 (write 4 (local 3) (two sub (local 5) (local 3)) then pc 13)))))
    -- call 0 (z, x) of a procedure that begins at label 1
    × (code (layout C) 1 3 (begins C) 12 (call 0 (local 2 ∷ local 0 ∷ [])) 13
    ≡ load 3 7 (load 5 9 (put 5 (local 5) (put 6 (local 3) (put 3 (num 13) (pc 1))))))
loads = (refl, refl, refl)

-- "An empty then or else leads to what follows the if; an empty loop body leads to the loop itself": of label 12
pub empty_blocks :
    (code (layout C) 1 3 (begins C) 12 (if (local 0) end (step 13 (assign 0 (num 1)) end)) 14 ≡ load 3 7 (test (local 3) 14 13))
    × (code (layout C) 1 3 (begins C) 12 (if (local 0) (step 13 (assign 0 (num 1)) end) end) 14 ≡ load 3 7 (test (local 3) 13 14))
    × (code (layout C) 1 3 (begins C) 12 (while (local 0) end) 13 ≡ load 3 7 (test (local 3) 12 13))
empty_blocks = (refl, refl, refl)

-- C'S TRANSLATION IS AS WORKED BY HAND.
pub worked : translate C ≡ record { procs = copied; sizes = 1 ∷ 1 ∷ 2 ∷ 2 ∷ 2 ∷ 2 ∷ 2 ∷ 2 ∷ []; mains = [] }
worked = refl
