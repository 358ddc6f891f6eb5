-- Whose a brick is.
use Rattle.std.proofs.Common.{◌≡◌, true, false, refl}
use Rattle.rt_object.specs.declared.object.BrickKind.{BrickKind}
use Rattle.rt_object.specs.declared.object.BrickKind.TheVariants as kind
use Rattle.rt_match.specs.Matching as matching
use Rattle.rt_match.specs.Signatures.{whose}
use Rattle.rt_match.specs.Walking.{is_ent, is_ext}

pub ext_whose : (k : BrickKind) → is_ext k ≡ true → whose k ≡ matching.Ext
ext_whose (kind.Own c) h = absurd cc
ext_whose (kind.Ent c) h = absurd cc
ext_whose (kind.Ext e) h = refl
ext_whose (kind.Svc s) h = absurd cc

pub ext_is : (k : BrickKind) → whose k ≡ matching.Ext → is_ext k ≡ true
ext_is (kind.Own c) h = absurd cc
ext_is (kind.Ent c) h = absurd cc
ext_is (kind.Ext e) h = refl
ext_is (kind.Svc s) h = absurd cc

pub ent_whose : (k : BrickKind) → is_ent k ≡ true → whose k ≡ matching.Ent
ent_whose (kind.Own c) h = absurd cc
ent_whose (kind.Ent c) h = refl
ent_whose (kind.Ext e) h = absurd cc
ent_whose (kind.Svc s) h = absurd cc

pub ent_not : (k : BrickKind) → is_ent k ≡ false → whose k ≡ matching.Ent → ⊥
ent_not (kind.Own c) h q = absurd cc
ent_not (kind.Ent c) h q = absurd cc
ent_not (kind.Ext e) h q = absurd cc
ent_not (kind.Svc s) h q = absurd cc
