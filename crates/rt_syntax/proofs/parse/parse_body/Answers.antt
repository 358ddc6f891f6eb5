use Rattle.std.proofs.Common.{◌≡◌, Ok, Err, arith}
use Rattle.rt_syntax.proofs.Exact.{parsed, parsed_derives, one_body, not_derived, refused_at, refused_left, refused_number}
use Rattle.rt_syntax.proofs.parse.parse_body.Goals as goal

pub overflow_sub-result : goal.overflow_sub-result
overflow_sub-result c =
    let p : parsed c.args.items.now c.args.at ≡ Ok (c.in-Ok.found, c.in-Ok.rest.now) = rw (c.from_place-from.ensures) at c.in-Ok.ensures in
    let lt = (parsed_derives c.args.items.now c.args.at c.in-Ok.found c.in-Ok.rest.now c.requires p).0 in omega arith

pub overflow_sub-result-in-Ok : goal.overflow_sub-result-in-Ok
overflow_sub-result-in-Ok c =
    let p : parsed c.args.items.now c.args.at ≡ Ok (c.in-Ok.found, c.in-Ok.rest.now) = rw (c.from_place-from.ensures) at c.in-Ok.ensures in
    let lt = (parsed_derives c.args.items.now c.args.at c.in-Ok.found c.in-Ok.rest.now c.requires p).0 in omega arith

pub line_left-requires : goal.line_left-requires
line_left-requires c =
    let p : parsed c.args.items.now c.args.at ≡ Err c.in-Err-Unfit.left = rw (c.from_place-from.ensures, c.in-Err-Unfit.field-0-is) at c.in-Err-Unfit.ensures in
    rw (c.from_place-from.ensures) (refused_left c.args.items.now c.args.at c.in-Err-Unfit.left c.requires p)

pub returns-in-Ok-clause-found : goal.returns-in-Ok-clause-found
returns-in-Ok-clause-found c =
    let p : parsed c.args.items.now c.args.at ≡ Ok (c.in-Ok.found, c.in-Ok.rest.now) = rw (c.from_place-from.ensures) at c.in-Ok.ensures in
    (parsed_derives c.args.items.now c.args.at c.in-Ok.found c.in-Ok.rest.now c.requires p).1

pub returns-in-Ok-clause-only : goal.returns-in-Ok-clause-only
returns-in-Ok-clause-only c = λ b place d.
    let p : parsed c.args.items.now c.args.at ≡ Ok (c.in-Ok.found, c.in-Ok.rest.now) = rw (c.from_place-from.ensures) at c.in-Ok.ensures in
    one_body c.args.items.now c.args.at c.in-Ok.found b _ place (parsed_derives c.args.items.now c.args.at c.in-Ok.found c.in-Ok.rest.now c.requires p).1 d

pub returns-in-Err-Unfit-clause-only : goal.returns-in-Err-Unfit-clause-only
returns-in-Err-Unfit-clause-only c = λ b place d.
    let p : parsed c.args.items.now c.args.at ≡ Err c.in-Err-Unfit.left = rw (c.from_place-from.ensures, c.in-Err-Unfit.field-0-is) at c.in-Err-Unfit.ensures in
    not_derived c.args.items.now c.args.at c.in-Err-Unfit.left b place p d

pub returns-in-Err-Unfit-clause-refused : goal.returns-in-Err-Unfit-clause-refused
returns-in-Err-Unfit-clause-refused c =
    let p : parsed c.args.items.now c.args.at ≡ Err c.in-Err-Unfit.left = rw (c.from_place-from.ensures, c.in-Err-Unfit.field-0-is) at c.in-Err-Unfit.ensures in
    let number = (refused_number c.args.items.now c.args.at c.in-Err-Unfit.left c.requires p).1 in
    (number, rw (c.line_left.ensures, c.from_place-from.ensures) (refused_at c.args.items.now c.args.at c.in-Err-Unfit.left c.requires p))

pub overflow_sub-result-in-Err-Unfit : goal.overflow_sub-result-in-Err-Unfit
overflow_sub-result-in-Err-Unfit c =
    let p : parsed c.args.items.now c.args.at ≡ Err c.in-Err-Unfit.left = rw (c.from_place-from.ensures, c.in-Err-Unfit.field-0-is) at c.in-Err-Unfit.ensures in
    let few = (refused_number c.args.items.now c.args.at c.in-Err-Unfit.left c.requires p).0 in omega arith
