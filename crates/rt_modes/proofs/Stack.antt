-- The words of the parts that are still to come.
use Rattle.std.proofs.Common.{◌≡◌, ℕ, List, [], ◌∷◌, ◌++◌, length, Option, Some, codes, refl, sym, ◌∙◌, arith, append_assoc}
use Rattle.std.proofs.lemmas.List.{append-nil}
use Rattle.rt_modes.specs.declared.mode.Mode.{Mode}
use Rattle.rt_modes.specs.declared.mode.Field.{Field}
use Rattle.rt_modes.specs.declared.mode.ModeTable.{ModeTable}
use Rattle.rt_modes.specs.FullMode.{Word, Says, mode_words, fields_inside}
use Rattle.rt_modes.specs.Left.{todo_words, stacked, words_left, Puts, parameters_inside, parameters_after, fields_after}
use Rattle.rt_modes.specs.declared.pieces.Todo.{Todo}

pub stacked_push : (ts : List Todo) (t : Todo) → stacked (ts ++ t ∷ []) ≡ todo_words t ++ stacked ts
stacked_push [] t = sym (append-nil (todo_words t))
stacked_push (u ∷ ts) t = rw (stacked_push ts t) (simp append_assoc)

-- one part is put on the others, or three are
pub one_more : (ts us : List Todo) (t : Todo) → us ≡ ts ++ t ∷ [] → stacked us ≡ todo_words t ++ stacked ts
one_more ts us t e = rw e (stacked_push ts t)

pub two_more : (ts us vs : List Todo) (t u : Todo) → us ≡ ts ++ t ∷ [] → vs ≡ us ++ u ∷ [] → stacked vs ≡ todo_words u ++ (todo_words t ++ stacked ts)
two_more ts us vs t u e f = one_more us vs u f ∙ rw (one_more ts us t e) refl

pub three_more : (ts us vs ws : List Todo) (t u v : Todo) → us ≡ ts ++ t ∷ [] → vs ≡ us ++ u ∷ [] → ws ≡ vs ++ v ∷ [] → stacked ws ≡ todo_words v ++ (todo_words u ++ (todo_words t ++ stacked ts))
three_more ts us vs ws t u v e f g = one_more vs ws v g ∙ rw (two_more ts us vs t u e f) refl

-- a word that is said, with its bytes
pub says : (t : ModeTable) (order : List ℕ) (place : ℕ) (before ws : List Word) (bytes old new : List ℕ) → before ≡ Says bytes ∷ ws → new ≡ old ++ bytes
    → Puts t (words_left t order place before) (words_left t order place ws) old new
says t order place before ws bytes old new e f = rw (e, f) (record { text = simp append_assoc; words = omega arith })

pub no_parameters : (ps none : List Mode) (r : Option Mode) → length ps ≡ 0 → none ≡ [] → parameters_after none r ≡ parameters_inside ps r
no_parameters [] none r e f = rw f refl
no_parameters (p ∷ ps) none r e f = absurd (omega arith)

pub first_parameter : (ps rest : List Mode) (first : Mode) (r : Option Mode) → ps ≡ first ∷ rest → parameters_inside ps r ≡ mode_words first ++ parameters_after rest r
first_parameter ps rest first r e = rw e (simp append_assoc)

pub no_fields : (fs none : List Field) → length fs ≡ 0 → none ≡ [] → fields_after none ≡ fields_inside fs
no_fields [] none e f = rw f refl
no_fields (p ∷ ps) none e f = absurd (omega arith)

pub first_field : (fs rest : List Field) (first : Field) → fs ≡ first ∷ rest → fields_inside fs ≡ mode_words first.mode ++ (Says (32 ∷ first.name) ∷ fields_after rest)
first_field fs rest first e = rw e (simp append_assoc)

-- the first word of some is said, and the others are put on the parts
pub begins : (t : ModeTable) (order : List ℕ) (place : ℕ) (words inside : List Word) (ts us : List Todo) (bytes old new : List ℕ) → words ≡ Says bytes ∷ inside → new ≡ old ++ bytes
    → stacked us ≡ inside ++ stacked ts → Puts t (words_left t order place (words ++ stacked ts)) (words_left t order place (stacked us)) old new
begins t order place words inside ts us bytes old new e f g = rw g (says t order place (words ++ stacked ts) (inside ++ stacked ts) bytes old new (rw e refl) f)

pub last_parameter : (rest : List Mode) (r : Option Mode) (m inner : Mode) → length rest ≡ 0 → r ≡ Some m → inner ≡ m → parameters_after rest r ≡ Says (codes ") ") ∷ mode_words inner
last_parameter [] r m inner e f g = rw (f, g) refl
last_parameter (p ∷ rest) r m inner e f g = absurd (omega arith)
