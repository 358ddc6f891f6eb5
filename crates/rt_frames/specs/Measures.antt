-- What the code keeps of places and values, in the terms of the definitions. Its numbers have 16 bits.
use Rattle.std.specs.Prelude.{◌≡◌, ℕ, ◌+◌, ◌++◌, max, if◌then◌else◌, Bool, true, false, ◌&&◌, ◌||◌, List, [], ◌∷◌, Option, Some, None}
use Rattle.rt_modes.specs.declared.mode.Mode.{Mode, out-Mode}
use Rattle.rt_modes.specs.declared.mode.Mode.TheOpen.{Mode-F}
use Rattle.rt_tree_nodes.specs.Code.{mode_found, place_found}
use Rattle.rt_tree.specs.Depth.{depth, address_depth, arguments_depth, above, behind}
use Rattle.rt_tree_nodes.specs.Scopes.{with, passes, same}
use Rattle.rt_tree_nodes.specs.Tree.{Terms}
use Rattle.rt_tree_nodes.specs.Typing.{Signature, call_mode, is_byte, is_small, Found, Shared, Private, Row, Placed, Valued, Spot, OnLocal, OnPath, OnRow, is_int}
use Rattle.rt_frames.specs.declared.measure.Address.{Address}
use Rattle.rt_frames.specs.declared.measure.Address.TheVariants as address
use Rattle.rt_frames.specs.declared.measure.Measured.{Measured}
use Rattle.rt_frames.specs.declared.measure.Reached.{Reached}
use Rattle.rt_frames.specs.declared.values.Called.{Called}
use Rattle.rt_frames.specs.declared.frame.CallPoint.{CallPoint}
use Rattle.rt_frames.specs.declared.values.Passing as passing_node
use Rattle.rt_frames.specs.Points.{waits, CalleePoints, ValuePoints}
use Rattle.rt_frames.specs.Saturated.{saturated, saturated_points}

abbrev pub greater : ℕ → ℕ → ℕ
greater a b = max a b

abbrev pub words : Address → ℕ
words address.Local = 0
words (address.Path d) = waits d
words (address.Row d) = 1

abbrev pub depth_of : Address → ℕ
depth_of address.Local = 0
depth_of (address.Path d) = d
depth_of (address.Row d) = d

-- how the plain tree of a place comes to it
abbrev pub address_of : Spot → Address
address_of (OnLocal i) = address.Local
address_of (OnPath p) = address.Path (address_depth p)
address_of (OnRow v) = address.Row (depth v)

abbrev pub saturated_address : Address → Address
saturated_address address.Local = address.Local
saturated_address (address.Path d) = address.Path (saturated d)
saturated_address (address.Row d) = address.Row (saturated d)

-- it was measured, and has its mode, its number and its depth
pub record IsMeasured (v : Valued) (m : Measured) : Type 0 where
  pub mode : mode_found m.mode ≡ v.mode
  pub number : m.number ≡ v.number
  pub depth : m.depth ≡ saturated (depth v.tree)

pub record IsReached (p : Placed) (r : Reached) : Type 0 where
  pub found : place_found r.found ≡ p.found
  pub address : r.address ≡ saturated_address (address_of p.tree)

-- ---- fields, elements and where references lead, as the code finds them

abbrev pub array_address : Mode-F Mode → Address → ℕ → Address
array_address (Mode-F.Array n m) (address.Path d) v = address.Path (saturated (behind d v))
array_address _ a v = a

-- an element: of an array at an address, or of the row behind a REF ARRAY
abbrev pub element_address : Option Found → Address → ℕ → Address
element_address (Some (Shared m)) a v = array_address (out-Mode m) a v
element_address (Some (Private m)) a v = array_address (out-Mode m) a v
element_address (Some (Row m)) (address.Row d) v = address.Path (saturated (above d v))
element_address _ a v = a

abbrev pub int_or_none : {A : Type 0} → Option Mode → Option A → Option A
int_or_none m x = with m (λ w. if is_int w then x else None)

abbrev pub led_address : Option Found → ℕ → Address
led_address (Some (Shared m)) d = address.Path d
led_address _ d = address.Row d

abbrev pub is_array_layer : Mode-F Mode → Bool
is_array_layer (Mode-F.Array n m) = true
is_array_layer _ = false

abbrev pub is_array : Found → Bool
is_array (Shared m) = is_array_layer (out-Mode m)
is_array (Private m) = is_array_layer (out-Mode m)
is_array _ = false

abbrev pub is_row : Found → Bool
is_row (Row m) = true
is_row _ = false

-- the depth of what is read at a place, of its reference and of its LENGTH
abbrev pub taken : Address → ℕ
taken address.Local = 1
taken (address.Path d) = max 1 d
taken (address.Row d) = d

-- ---- calls

-- the depth of a call of a variable of this depth, or of a brick, which has depth 0
abbrev pub call_depth : ℕ → ℕ → Terms → ℕ
call_depth d takes ts = max (max 1 d) (saturated (arguments_depth takes ts))

-- what is called was measured; its depth is that of the variable, 0 for a brick
pub record IsCalled (f : CalleePoints) (c : Called) : Type 0 where
  pub mode : mode_found c.mode ≡ f.called.mode
  pub takes : c.takes ≡ f.takes
  pub target : c.target ≡ f.target
  pub depth : (ts : Terms) → saturated (depth (f.called.tree ts)) ≡ call_depth c.depth f.takes ts

-- the mode of the result of a call with these arguments
abbrev pub result_mode : Option Mode → List Valued → Option Mode
result_mode f vs = with (call_mode f vs) (λ r. r)

abbrev pub parameters_of : Option Signature → List Mode
parameters_of None = []
parameters_of (Some s) = s.parameters

abbrev pub after_first : List Mode → List Mode
after_first [] = []
after_first (m ∷ ms) = ms

abbrev pub first_suits : Option Mode → Option ℕ → List Mode → Bool
first_suits m n [] = false
first_suits m n (w ∷ ws) = passes (λ v. same w v || (is_byte w && is_small n)) m

-- ---- arguments, one after the other

pub record Passing : Type 0 where
  pub suit : Bool
  pub depth : ℕ
  pub at : ℕ
  pub offset : ℕ
  pub wanted : List Mode
  pub calls : List CallPoint

abbrev pub passing_of : passing_node.Passing → List CallPoint → Passing
passing_of p cs = record { suit = p.suit; depth = p.depth; at = p.at; offset = p.offset; wanted = p.wanted.now; calls = cs }

-- one argument more, of a mode, a number, a depth and points
abbrev pub with_argument : Passing → Option Mode → Option ℕ → ℕ → List CallPoint → Passing
with_argument s m n d ps = record {
  suit = s.suit && first_suits m n s.wanted;
  depth = max s.depth (saturated (s.offset + d));
  at = saturated (s.at + 1);
  offset = saturated (s.offset + 1);
  wanted = after_first s.wanted;
  calls = s.calls ++ ps;
}

abbrev pub pass_one : Passing → ValuePoints → Passing
pass_one s v = with_argument s v.valued.mode v.valued.number (saturated (depth v.valued.tree)) (saturated_points (v.points s.at))

abbrev pub is_none : List Mode → Bool
is_none [] = true
is_none (m ∷ ms) = false

abbrev pub pass_all : Passing → List ValuePoints → Passing
pass_all s [] = s
pass_all s (v ∷ vs) = pass_all (pass_one s v) vs

abbrev pub passing_from : ℕ → ℕ → List Mode → List CallPoint → Passing
passing_from at offset wanted cs = record { suit = true; depth = 0; at = at; offset = offset; wanted = wanted; calls = cs }
