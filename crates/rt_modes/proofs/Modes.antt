-- The words of a mode, by the mode that it is.
use Rattle.std.proofs.Common.{◌≡◌, ℕ, List, ◌∷◌, ◌++◌, Option, None, Some, codes, decimal, refl, ap, ◌∙◌}
use Rattle.rt_modes.specs.declared.mode.Mode.{Mode, out-Mode, the_lemmas}
use Rattle.rt_modes.specs.declared.mode.Mode.TheFolds.{fold_out-Mode}
use Rattle.rt_modes.specs.declared.mode.Mode.TheOpen.{Mode-F}
use Rattle.rt_modes.specs.declared.mode.Mode.TheVariants as mode
use Rattle.rt_modes.specs.FullMode.{Says, mode_words}
use Rattle.rt_modes.specs.Left.{parameters_inside}

pub out_byte : (m : Mode) → m ≡ mode.Byte → out-Mode m ≡ Mode-F.Byte
out_byte m e = ap out-Mode e ∙ search the_lemmas

pub out_int : (m : Mode) → m ≡ mode.Int → out-Mode m ≡ Mode-F.Int
out_int m e = ap out-Mode e ∙ search the_lemmas

pub out_frac : (m : Mode) → m ≡ mode.Frac → out-Mode m ≡ Mode-F.Frac
out_frac m e = ap out-Mode e ∙ search the_lemmas

pub out_label : (m : Mode) → m ≡ mode.Label → out-Mode m ≡ Mode-F.Label
out_label m e = ap out-Mode e ∙ search the_lemmas

pub out_record : (m : Mode) (k : ℕ) → m ≡ mode.Record k → out-Mode m ≡ Mode-F.Record k
out_record m k e = ap out-Mode e ∙ search the_lemmas

pub out_ref : (m of : Mode) → m ≡ mode.Ref of → out-Mode m ≡ Mode-F.Ref of
out_ref m of e = ap out-Mode e ∙ search the_lemmas

pub out_ref_array : (m of : Mode) → m ≡ mode.RefArray of → out-Mode m ≡ Mode-F.RefArray of
out_ref_array m of e = ap out-Mode e ∙ search the_lemmas

pub out_array : (m of : Mode) (n : ℕ) → m ≡ mode.Array n of → out-Mode m ≡ Mode-F.Array n of
out_array m of n e = ap out-Mode e ∙ search the_lemmas

pub out_proc : (m : Mode) (ps : List Mode) (r : Option Mode) → m ≡ mode.Proc ps r → out-Mode m ≡ Mode-F.Proc ps r
out_proc m ps r e = ap out-Mode e ∙ search the_lemmas

-- what a mode is made of is known as what the code holds of it
pub words_ref : (m of inner : Mode) → m ≡ mode.Ref of → inner ≡ of → mode_words m ≡ Says (codes "REF ") ∷ mode_words inner
words_ref m of inner e f = rw (fold_out-Mode, out_ref m of e, f) refl

pub words_ref_array : (m of inner : Mode) → m ≡ mode.RefArray of → inner ≡ of → mode_words m ≡ Says (codes "REF ARRAY ") ∷ mode_words inner
words_ref_array m of inner e f = rw (fold_out-Mode, out_ref_array m of e, f) refl

pub words_array : (m of inner : Mode) (n : ℕ) → m ≡ mode.Array n of → inner ≡ of → mode_words m ≡ Says (codes "ARRAY(" ++ decimal n ++ codes ") ") ∷ mode_words inner
words_array m of inner n e f = rw (fold_out-Mode, out_array m of n e, f) refl

pub words_proc : (m : Mode) (ps inner : List Mode) (r : Option Mode) → m ≡ mode.Proc ps r → inner ≡ ps → mode_words m ≡ Says (codes "PROC(") ∷ parameters_inside inner r
words_proc m ps inner None e f = rw (fold_out-Mode, out_proc m ps None e, f) refl
words_proc m ps inner (Some r) e f = rw (fold_out-Mode, out_proc m ps (Some r) e, f) refl
