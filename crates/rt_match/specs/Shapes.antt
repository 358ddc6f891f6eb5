-- Shapes, which are forms as the code lends them.
use Rattle.std.specs.Prelude.{◌≡◌}
use Rattle.rt_modes.specs.declared.mode.ModeTable.{ModeTable}
use Rattle.rt_match.specs.declared.shape.Shape.{Shape}
use Rattle.rt_match.specs.declared.shape.Shape.TheVariants as shape
use Rattle.rt_match.specs.Signatures.{Form, Proc, Data, Stack, sort_of, full_mode}

abbrev pub form : Shape → Form
form (shape.Proc m) = Proc m.now
form (shape.Data fs) = Data fs.now
form shape.Stack = Stack

-- two forms, each over the records of its own module, are of one sort and one full mode
pub record SameForm (t : ModeTable) (f : Form) (u : ModeTable) (g : Form) : Type 0 where
  pub sort : sort_of f ≡ sort_of g
  pub mode : full_mode t f ≡ full_mode u g
