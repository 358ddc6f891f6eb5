-- Numbers as 16 bits keep them: 65,535 stands for each that is greater.
use Rattle.std.specs.Prelude.{ℕ, min, List, map}
use Rattle.rt_frames.specs.declared.frame.CallPoint.{CallPoint}
use Rattle.rt_frames.specs.declared.frame.Frame.{Frame}

abbrev pub saturated : ℕ → ℕ
saturated n = min n 65535

abbrev pub saturated_point : CallPoint → CallPoint
saturated_point p = record { depth = saturated p.depth; args = saturated p.args; target = p.target }

abbrev pub saturated_points : List CallPoint → List CallPoint
saturated_points ps = map saturated_point ps

abbrev pub saturated_frame : Frame → Frame
saturated_frame f = record { params = saturated f.params; locals = saturated f.locals; deep = saturated f.deep; calls = saturated_points f.calls }
