-- `sequential::due` meets its contract.
use Rattle.std.proofs.Common.{rules}
use Rattle.decide.specs.Decided.{Tests}
use Rattle.sequential.proofs.Facing.{NoSelect, no_select_assign, no_select_write, no_select_read, no_select_other, facing_poised, facing_tests, faces_act, facing_ways}
use Rattle.decide.proofs.Deciding.{assign_ready, offset_ready, source_ready, read_ready, test_ready, decides_assign, decides_test, decide_ways}
use Rattle.sequential.proofs.machine.due.Goals as goal

pub decide_select-requires : goal.decide_select-requires
decide_select-requires c = search (facing_ways, decide_ways, rules)

pub evaluate-requires : goal.evaluate-requires
evaluate-requires c =
    assign_ready (facing_poised c.requires.0 (no_select_assign c.in-32.is) c.requires.1) c.in-32.is

pub decide_assign-requires : goal.decide_assign-requires
decide_assign-requires c = search (facing_ways, decide_ways, rules)

pub evaluate-o-requires : goal.evaluate-o-requires
evaluate-o-requires c =
    offset_ready (facing_poised c.requires.0 (no_select_write c.in-33.is) c.requires.1) c.in-33.is

pub evaluate-e-requires : goal.evaluate-e-requires
evaluate-e-requires c =
    source_ready (facing_poised c.requires.0 (no_select_write c.in-33.is) c.requires.1) c.in-33.is c.evaluate-o.ensures

pub decide_write-requires : goal.decide_write-requires
decide_write-requires c = search (facing_ways, decide_ways, rules)

pub evaluate-o-requires-in-34 : goal.evaluate-o-requires-in-34
evaluate-o-requires-in-34 c =
    read_ready (facing_poised c.requires.0 (no_select_read c.in-34.is) c.requires.1) c.in-34.is

pub decide_read-requires : goal.decide_read-requires
decide_read-requires c = search (facing_ways, decide_ways, rules)

pub decide_call-requires : goal.decide_call-requires
decide_call-requires c = search (facing_ways, decide_ways, rules)

pub evaluate-requires-in_default : goal.evaluate-requires-in_default
evaluate-requires-in_default c =
    let none : NoSelect c.args.t.now c.args.state.at = no_select_other (search rules) in
    let tests : Tests c.args.t.now c.args.state.at = facing_tests c.requires.0 none c.requires.1 (search rules) (search rules) (search rules) (search rules) (search rules) in
    test_ready (facing_poised c.requires.0 none c.requires.1) tests

pub returns-in-39 : goal.returns-in-39
returns-in-39 c = search (facing_ways, decide_ways, rules)

pub returns-in-0 : goal.returns-in-0
returns-in-0 c = search (facing_ways, decide_ways, rules)

pub returns-in-32 : goal.returns-in-32
returns-in-32 c =
    faces_act (no_select_assign c.in-32.is) c.requires.1 c.requires.2 (decides_assign c.in-32.is c.evaluate.ensures c.decide_assign.ensures)

pub returns-in-33 : goal.returns-in-33
returns-in-33 c = search (facing_ways, decide_ways, rules)

pub returns-in-34 : goal.returns-in-34
returns-in-34 c = search (facing_ways, decide_ways, rules)

pub returns-in-37 : goal.returns-in-37
returns-in-37 c = search (facing_ways, decide_ways, rules)

pub returns-in_default : goal.returns-in_default
returns-in_default c =
    let none : NoSelect c.args.t.now c.args.state.at = no_select_other (search rules) in
    let tests : Tests c.args.t.now c.args.state.at = facing_tests c.requires.0 none c.requires.1 (search rules) (search rules) (search rules) (search rules) (search rules) in
    faces_act none c.requires.1 c.requires.2 (decides_test tests c.evaluate-in_default.ensures c.decide_test.ensures)
