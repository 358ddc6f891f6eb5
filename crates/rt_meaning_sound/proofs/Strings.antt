-- The strings of a module's tree have bytes alone.
use Rattle.std.proofs.Common.{[], ◌∷◌, map}
use Rattle.std.specs.List.{AllByRecursion}
use Rattle.rt_items.specs.Ranges.{IsByte}
use Rattle.rt_syntax.specs.Strings.{Texts}
use Rattle.rt_check_module_laws.proofs.Texts.{AllShort}

pub strings_bytes : (ts : Texts) → AllShort ts → AllByRecursion (AllByRecursion IsByte) (map (λ t. t.1) ts)
strings_bytes [] h = tt
strings_bytes (t ∷ ts) h = (h.0.1, strings_bytes ts h.1)
