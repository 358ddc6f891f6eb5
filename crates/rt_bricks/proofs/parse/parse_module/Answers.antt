use Rattle.std.proofs.Common.{◌≡◌, ◌≤◌, length, Ok, Err, ap, arith}
use Rattle.rt_grammar.specs.Parsing.{left}
use Rattle.rt_bricks.proofs.Exact.{parsed, parsed_derives, one_module, not_with_rest, not_derived, few, refused, refused_number}
use Rattle.rt_bricks.proofs.parse.parse_module.Goals as goal

pub line_left-requires : goal.line_left-requires
line_left-requires c =
    let p : parsed c.args.items.now ≡ Ok (c.in-Ok.field-0-0, c.in-Ok.rest.now) = c.in-Ok.ensures in
    few c.args.items.now _ (ap left p)

pub returns-in-Ok-default-empty-clause-found : goal.returns-in-Ok-default-empty-clause-found
returns-in-Ok-default-empty-clause-found c =
    let p : parsed c.args.items.now ≡ Ok (c.in-Ok-default-empty.found, c.in-Ok-default-empty.field-0-1.now) = c.in-Ok-default-empty.ensures in
    parsed_derives c.args.items.now c.in-Ok-default-empty.found c.in-Ok-default-empty.field-0-1.now c.in-Ok-default-empty.len_below p

pub returns-in-Ok-default-empty-clause-only : goal.returns-in-Ok-default-empty-clause-only
returns-in-Ok-default-empty-clause-only c = λ it d.
    let p : parsed c.args.items.now ≡ Ok (c.in-Ok-default-empty.found, c.in-Ok-default-empty.field-0-1.now) = c.in-Ok-default-empty.ensures in
    let it_is = parsed_derives c.args.items.now c.in-Ok-default-empty.found c.in-Ok-default-empty.field-0-1.now c.in-Ok-default-empty.len_below p in
    one_module c.args.items.now c.in-Ok-default-empty.found it it_is d

pub returns-in-Ok-clause-only : goal.returns-in-Ok-clause-only
returns-in-Ok-clause-only c = λ it d.
    let p : parsed c.args.items.now ≡ Ok (c.in-Ok.field-0-0, c.in-Ok.rest.now) = c.in-Ok.ensures in
    not_with_rest c.args.items.now c.in-Ok.field-0-0 it c.in-Ok.rest.now c.in-Ok.len_at_least p d

pub returns-in-Ok-clause-refused : goal.returns-in-Ok-clause-refused
returns-in-Ok-clause-refused c =
    let p : parsed c.args.items.now ≡ Ok (c.in-Ok.field-0-0, c.in-Ok.rest.now) = c.in-Ok.ensures in
    (refused_number c.args.items.now _ (ap left p), rw (c.line_left.ensures) (refused c.args.items.now _ (ap left p)))

pub line_left-requires-in-Err-Unfit : goal.line_left-requires-in-Err-Unfit
line_left-requires-in-Err-Unfit c =
    let p : parsed c.args.items.now ≡ Err c.in-Err-Unfit.left = rw (c.in-Err-Unfit.field-0-is) at c.in-Err-Unfit.ensures in
    few c.args.items.now _ (ap left p)

pub returns-in-Err-Unfit-clause-only : goal.returns-in-Err-Unfit-clause-only
returns-in-Err-Unfit-clause-only c = λ it d.
    let p : parsed c.args.items.now ≡ Err c.in-Err-Unfit.left = rw (c.in-Err-Unfit.field-0-is) at c.in-Err-Unfit.ensures in
    not_derived c.args.items.now c.in-Err-Unfit.left it p d

pub returns-in-Err-Unfit-clause-refused : goal.returns-in-Err-Unfit-clause-refused
returns-in-Err-Unfit-clause-refused c =
    let p : parsed c.args.items.now ≡ Err c.in-Err-Unfit.left = rw (c.in-Err-Unfit.field-0-is) at c.in-Err-Unfit.ensures in
    (refused_number c.args.items.now _ (ap left p), rw (c.line_left-in-Err-Unfit.ensures) (refused c.args.items.now _ (ap left p)))

pub overflow_sub-result : goal.overflow_sub-result
overflow_sub-result c =
    let p : parsed c.args.items.now ≡ Ok (c.in-Ok.field-0-0, c.in-Ok.rest.now) = c.in-Ok.ensures in
    let within : length c.in-Ok.rest.now ≤ length c.args.items.now = few c.args.items.now _ (ap left p) in omega arith

pub overflow_sub-result-in-Err-Unfit : goal.overflow_sub-result-in-Err-Unfit
overflow_sub-result-in-Err-Unfit c =
    let p : parsed c.args.items.now ≡ Err c.in-Err-Unfit.left = rw (c.in-Err-Unfit.field-0-is) at c.in-Err-Unfit.ensures in
    let within : c.in-Err-Unfit.left ≤ length c.args.items.now = few c.args.items.now _ (ap left p) in omega arith
