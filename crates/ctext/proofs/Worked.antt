-- docs/C-TEXT.md's example, and forms that are not in it: a negative number, deep expressions, arguments, an empty program.
use Rattle.std.specs.Prelude.{◌≡◌, refl, [], ◌∷◌, ◌++◌, pos, negsuc, length}
use Rattle.value.specs.Values.{not, neg, add, sub, mul, less, and}
use Rattle.value.specs.declared.Value.TheVariants.{Whole}
use Rattle.format.specs.Syntax.{constant, local, one, two, call, end, step, Program, Plain}
use Rattle.translation.specs.Translate.{translate}
use Rattle.ctext.specs.Pieces.{say, digits}
use Rattle.ctext.specs.Prelude.{prelude, lines}
use Rattle.ctext.specs.Text.{expr, block, text}

-- document 01's program A: one procedure that does nothing, one thread
abbrev A : Program Plain
A = record { procs = record { params = 0; locals = 0; body = end } ∷ []; sizes = []; mains = 0 ∷ [] }

-- "PRELUDE is the bytes of share/prelude.h: 5,071 of them"
pub prelude_long : length prelude ≡ 5071
unfolding prelude say
prelude_long = refl

-- "The copy of document 01's program A .. Behind the prelude:"
pub text_A :
    text (translate A)
    ≡ prelude
    ++ lines (
    "z_value m0[1];" ∷
    "z_value m1[1];" ∷
    "z_value m2[1];" ∷
    "const z_area z_areas[] = {" ∷
    "  { m0, 1 }," ∷
    "  { m1, 1 }," ∷
    "  { m2, 1 }," ∷
    "  { 0, 0 }" ∷
    "};" ∷
    "" ∷
    "void p0(void);" ∷
    "void p1(z_value x0);" ∷
    "" ∷
    "void p0(void) {" ∷
    "  enum { here = 0 };" ∷
    "  z_value x0 = z_unset(); (void)x0;" ∷
    "  z_value x1 = z_unset(); (void)x1;" ∷
    "  z_value x2 = z_unset(); (void)x2;" ∷
    "  z_value x3 = z_unset(); (void)x3;" ∷
    "  x1 = z_set(z_loc(1));" ∷
    "  z_write(here, x1, z_num(0), z_num(1));" ∷
    "  x1 = z_set(z_loc(2));" ∷
    "  z_write(here, x1, z_num(0), z_num(0));" ∷
    "  x3 = z_set(z_false());" ∷
    "  while (z_test(z_not(x3))) {" ∷
    "    z_select(0, 1);" ∷
    "    x1 = z_set(z_loc(0));" ∷
    "    x0 = z_read(here, x1, z_num(0));" ∷
    "    x1 = z_set(z_loc(1));" ∷
    "    x2 = z_read(here, x1, x0);" ∷
    "    if (z_test(z_equal(x2, z_num(1)))) {" ∷
    "      z_call(); p1(x0);" ∷
    "    } else {" ∷
    "    }" ∷
    "    x3 = z_set(z_true());" ∷
    "    x1 = z_set(z_loc(1));" ∷
    "    x2 = z_read(here, x1, z_num(0));" ∷
    "    x3 = z_set(z_and(x3, z_equal(x2, z_num(0))));" ∷
    "  }" ∷
    "  z_return();" ∷
    "}" ∷
    "" ∷
    "void p1(z_value x0) {" ∷
    "  enum { here = 1 };" ∷
    "  x0 = z_arg(x0);" ∷
    "  z_value x1 = z_unset(); (void)x1;" ∷
    "  z_value x2 = z_unset(); (void)x2;" ∷
    "  x1 = z_set(z_loc(2));" ∷
    "  x2 = z_read(here, x1, x0);" ∷
    "  x1 = z_set(z_loc(1));" ∷
    "  z_write(here, x1, x0, x2);" ∷
    "  z_return();" ∷
    "}" ∷
    [])
unfolding text say digits
text_A = refl

-- "-2147483648 is written like any other"
pub least : expr (constant (Whole (negsuc 2147483647))) ≡ say "z_num(-2147483648)"
unfolding say digits
least = refl

-- "SEP(l) is `, ` for l = 1, 2, 3 and `,\n` from 4 on"
pub deep :
    expr (two and (local 0) (two and (local 1) (one not (two less (local 2) (two add (constant (Whole (pos 10))) (local 31))))))
    ≡ say "z_and(x0, z_and(x1, z_not(z_less(x2,\nz_add(z_num(10),\nx31)))))"
unfolding say digits
deep = refl

-- "with `,\n` between two of them", at depth 2
pub arguments :
    block {A = Plain} 2 (step tt (call 7 (local 0 ∷ one neg (two sub (local 1) (local 2)) ∷ two mul (local 3) (local 4) ∷ [])) (step tt (call 10 []) end))
    ≡ say "    z_call(); p7(x0,\nz_neg(z_sub(x1, x2)),\nz_mul(x3, x4));\n    z_call(); p10();\n"
unfolding say digits
arguments = refl
