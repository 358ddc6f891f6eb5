-- What the code lends, in the terms of the definitions.
use Rattle.std.specs.Prelude.{Option, option_map}
use Rattle.std.specs.Option.{option_copied}
use Rattle.rt_modes.specs.declared.mode.Mode.{Mode}
use Rattle.rt_modes.specs.declared.mode.Mode.TheVariants as mode
use Rattle.rt_tree_nodes.specs.declared.lent.Found as code_found
use Rattle.rt_tree_nodes.specs.declared.lent.Found.TheVariants as code
use Rattle.rt_tree_nodes.specs.declared.lent.Lent.{Lent}
use Rattle.rt_tree_nodes.specs.declared.lent.Lent.TheVariants as lend
use Rattle.rt_tree_nodes.specs.declared.lent.Signature as code_signature
use Rattle.rt_tree_nodes.specs.declared.lent.ValueMode.{ValueMode}
use Rattle.rt_tree_nodes.specs.declared.lent.ValueMode.TheVariants as value
use Rattle.rt_tree_nodes.specs.declared.scope.Scope as code_scope
use Rattle.rt_tree_nodes.specs.Scopes.{Scope, faces}
use Rattle.rt_tree_nodes.specs.Typing.{Signature, Found, Variable, Loop, Shared, Private, Row}

abbrev pub scope : code_scope.Scope → Scope
scope c = record {
  records = c.records.now;
  bricks = faces c.bricks.now;
  strings = c.strings;
  errors = option_copied c.errors;
  streams = option_copied c.streams;
  locals = c.locals.now;
}

abbrev pub lent : Lent → Mode
lent (lend.Of m) = m.now
lent lend.Byte = mode.Byte
lent lend.Int = mode.Int
lent lend.Frac = mode.Frac

abbrev pub value_mode : ValueMode → Mode
value_mode (value.Of m) = lent m
value_mode (value.Reference m) = mode.Ref (lent m)
value_mode (value.Row m) = mode.RefArray (lent m)

abbrev pub found : code_found.Found → Found
found (code.Variable m) = Variable m.now
found code.Loop = Loop
found (code.Shared m) = Shared (lent m)
found (code.Private m) = Private m.now
found (code.Row m) = Row (lent m)

abbrev pub mode_found : Option ValueMode → Option Mode
mode_found = option_map value_mode

abbrev pub place_found : Option code_found.Found → Option Found
place_found = option_map found

-- the result of a call, if any
abbrev pub call_found : Option (Option ValueMode) → Option (Option Mode)
call_found = option_map mode_found

abbrev pub signature_seen : code_signature.Signature → Signature
signature_seen s = record { parameters = s.parameters.now; answer = mode_found s.answer }

abbrev pub signature : Option code_signature.Signature → Option Signature
signature = option_map signature_seen
