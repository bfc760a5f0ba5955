-- Two tables worked by hand from document 01, with every form of its three tables. A's and B's bytes are in crate `agreement`, Worked.
use Rattle.std.specs.Prelude.{ℕ, ◌≡◌, refl, List, [], ◌∷◌, true, false, pos, negsuc}
use Rattle.value.specs.Values.{not, neg, add, sub, mul, less, equal, and}
use Rattle.value.specs.declared.Value.TheVariants.{Whole, Location, Truth}
use Rattle.format.specs.Syntax.{Expr, constant, local, one, two, Instr, assign, write, read, while, if, call, atomic, select}
use Rattle.format.specs.Syntax.{Block, end, step, Program, Plain, concurrent, sequential}
use Rattle.format.specs.Rules.{accepted, verdict}
use Rattle.format.specs.Calls.{read_call}

-- an instruction, then a block
infixr 55 ◌then◌
abbrev ◌then◌ : Instr Plain → Block Plain → Block Plain
i then b = step tt i b

-- the number n
abbrev num : ℕ → Expr
num n = constant (Whole (pos n))

-- ---- concurrent

-- D: procedure 0 with locals x, y; procedure 1 with two parameters and one local more; locations of size 2, 256 and 3; one thread
abbrev D : Program Plain
D = record {
  procs =
      record {
        params = 0;
        locals = 2;
        body =
            -- x := -2; y := location 2; y[1] := not (x < 3); x := y[0]
            assign 0 (constant (Whole (negsuc 1))) then
            assign 1 (constant (Location 2)) then
            write 1 (num 1) (one not (two less (local 0) (num 3))) then
            read 0 1 (num 0) then
            -- while (x = y) and false { call 1 (x - 1, x * 2) }
            while (two and (two equal (local 0) (local 1)) (constant (Truth false)))
            (call 1 (two sub (local 0) (num 1) ∷ two mul (local 0) (num 2) ∷ []) then end) then
            -- if true { atomic { x := negate (x + 1) } } else { }
            if (constant (Truth true)) (atomic (assign 0 (one neg (two add (local 0) (num 1))) then end) then end) end then
            end;
      }
      ∷ record { params = 2; locals = 3; body = end }
      ∷ [];
  sizes = 2 ∷ 256 ∷ 3 ∷ [];
  mains = 0 ∷ [];
}

-- its bytes
abbrev bytes_d : List ℕ
bytes_d =
    0x20 ∷ 0x00 ∷ 0x01 ∷ 0xFE ∷ 0xFF ∷ 0xFF ∷ 0xFF ∷
    0x20 ∷ 0x01 ∷ 0x02 ∷ 0x02 ∷ 0x00 ∷
    0x21 ∷ 0x01 ∷ 0x01 ∷ 0x01 ∷ 0x00 ∷ 0x00 ∷ 0x00 ∷ 0x16 ∷ 0x13 ∷ 0x05 ∷ 0x00 ∷ 0x01 ∷ 0x03 ∷ 0x00 ∷ 0x00 ∷ 0x00 ∷
    0x22 ∷ 0x00 ∷ 0x01 ∷ 0x01 ∷ 0x00 ∷ 0x00 ∷ 0x00 ∷ 0x00 ∷
    0x23 ∷ 0x15 ∷ 0x14 ∷ 0x05 ∷ 0x00 ∷ 0x05 ∷ 0x01 ∷ 0x03 ∷
    0x25 ∷ 0x01 ∷ 0x00 ∷ 0x02 ∷
    0x11 ∷ 0x05 ∷ 0x00 ∷ 0x01 ∷ 0x01 ∷ 0x00 ∷ 0x00 ∷ 0x00 ∷
    0x12 ∷ 0x05 ∷ 0x00 ∷ 0x01 ∷ 0x02 ∷ 0x00 ∷ 0x00 ∷ 0x00 ∷
    0x00 ∷
    0x24 ∷ 0x04 ∷ 0x26 ∷ 0x20 ∷ 0x00 ∷ 0x17 ∷ 0x10 ∷ 0x05 ∷ 0x00 ∷ 0x01 ∷ 0x01 ∷ 0x00 ∷ 0x00 ∷ 0x00 ∷ 0x00 ∷ 0x00 ∷ 0x00 ∷
    0x00 ∷
    -- the body of procedure 1
    0x00 ∷
    -- the records: procedure 1 begins at byte 83
    0x00 ∷ 0x02 ∷ 0x00 ∷ 0x00 ∷ 0x00 ∷ 0x00 ∷
    0x02 ∷ 0x03 ∷ 0x53 ∷ 0x00 ∷ 0x00 ∷ 0x00 ∷
    -- sizes, main
    0x02 ∷ 0x00 ∷ 0x00 ∷ 0x01 ∷ 0x03 ∷ 0x00 ∷
    0x00 ∷ 0x00 ∷
    -- the trailer: 2 procedures, 3 locations, 1 thread; 20 bytes back; 120 bytes
    0x43 ∷ 0x50 ∷ 0x02 ∷ 0x00 ∷ 0x03 ∷ 0x00 ∷ 0x01 ∷ 0x00 ∷ 0x14 ∷ 0x00 ∷ 0x00 ∷ 0x00 ∷ 0x78 ∷ 0x00 ∷ 0x00 ∷ 0x00 ∷ []

-- D'S BYTES ARE READ AS D.
pub reads_D : verdict concurrent bytes_d ≡ accepted D
reads_D = refl

-- "answers 0 with P, M, T, the number of labels .. and of cells": 8 instructions outside the atomic block, 2 end labels
pub answers_D : read_call concurrent bytes_d ≡ record { number = 0; procedures = 2; locations = 3; threads = 1; labels = 10; cells = 261 }
answers_D = refl

-- ---- sequential

-- S: select(location 0, location 1), of size 1 and 2
abbrev S : Program Plain
S = record { procs = record { params = 0; locals = 0; body = select 0 1 then end } ∷ []; sizes = 1 ∷ 2 ∷ []; mains = [] }

-- its bytes
abbrev bytes_s : List ℕ
bytes_s =
    0x27 ∷ 0x00 ∷ 0x00 ∷ 0x01 ∷ 0x00 ∷
    0x00 ∷
    0x00 ∷ 0x00 ∷ 0x00 ∷ 0x00 ∷ 0x00 ∷ 0x00 ∷
    0x01 ∷ 0x00 ∷ 0x02 ∷ 0x00 ∷
    0x53 ∷ 0x50 ∷ 0x01 ∷ 0x00 ∷ 0x02 ∷ 0x00 ∷ 0x00 ∷ 0x00 ∷ 0x0A ∷ 0x00 ∷ 0x00 ∷ 0x00 ∷ 0x20 ∷ 0x00 ∷ 0x00 ∷ 0x00 ∷ []

-- S'S BYTES ARE READ AS S.
pub reads_S : verdict sequential bytes_s ≡ accepted S
reads_S = refl

-- "the number of labels (sequential: 0)"
pub answers_S : read_call sequential bytes_s ≡ record { number = 0; procedures = 1; locations = 2; threads = 0; labels = 0; cells = 3 }
answers_S = refl

-- "A refusal returns its number and zeros": S is no concurrent table
pub refuses_S : read_call concurrent bytes_s ≡ record { number = 1; procedures = 0; locations = 0; threads = 0; labels = 0; cells = 0 }
refuses_S = refl
