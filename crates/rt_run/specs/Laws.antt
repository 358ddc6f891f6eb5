-- Laws of calls that run a machine.
use Rattle.std.specs.Prelude.{◌≡◌, ℕ, ◌+◌, ◌≤◌, List, Option, Some, length, drop}
use Rattle.rt_image.specs.declared.image.ImageParts.{ImageParts}
use Rattle.rt_run.specs.declared.machine.End.{End}
use Rattle.rt_run.specs.Inputs.{Feed}
use Rattle.rt_run.specs.Boundaries.{State, Why, Over, state_of, boundary}
use Rattle.rt_run.specs.Picture.{Standing, Shows}
use Rattle.rt_run.specs.Runs.{IsAtBoundary, Reaches, Runs}

-- a call and a further one are one call up to the limit of the second, over the bytes that both were given
abbrev pub TwoCallsAreOne : Type 0
TwoCallsAreOne = (limit limit2 : ℕ) (end end2 : End) (d d2 d3 : Standing) (from mid to : Feed) (written written2 written3 : Option (List ℕ)) → Runs limit end d from written d2 mid written2 → Runs limit2 end2 d2 mid written2 d3 to written3 → Runs limit2 end2 d from written d3 to written3

-- the run over the bytes that the input tells; what is left of them then
pub record RunsOverTold (image : ImageParts) (gaps all : List ℕ) (limit : ℕ) (s : State) (end : End) (d : Standing) (to : Feed) (written written2 : Option (List ℕ)) : Type 0 where
  pub given : List ℕ
  pub reaches : Reaches image gaps all limit s given end d written written2
  pub left : to.left ≡ Some (drop reaches.rests.comes.state.taken all)

-- where the input tells its bytes, a call is the run over these
abbrev pub ToldBytesAreRunOver : Type 0
ToldBytesAreRunOver = (limit : ℕ) (end : End) (d d2 : Standing) (from to : Feed) (written written2 : Option (List ℕ)) → Runs limit end d from written d2 to written2 → (image : ImageParts) (gaps all : List ℕ) (s : State) → Shows image d s → IsAtBoundary image gaps all s → from.left ≡ Some (drop s.taken all) → RunsOverTold image gaps all limit s end d2 to written written2

-- a run that is at its end is there with each greater limit
abbrev pub EndsStay : Type 0
EndsStay = (image : ImageParts) (gaps all : List ℕ) (limit limit2 : ℕ) (why : Why) (s : State) → boundary image gaps all limit ≡ Over why s → limit ≤ limit2 → boundary image gaps all limit2 ≡ Over why s

-- the rules have as many tasks as the image, and each tick of the list is taken or left
pub record IsCounted (image : ImageParts) (gaps : List ℕ) (s : State) : Type 0 where
  pub tasks : length s.rules.tasks ≡ length image.tasks
  pub ticks : length s.placements + length s.gaps ≡ length gaps

-- so it is at each boundary of a run, and at its end
abbrev pub BoundariesAreCounted : Type 0
BoundariesAreCounted = (image : ImageParts) (gaps all : List ℕ) (k : ℕ) → IsCounted image gaps (state_of (boundary image gaps all k))
