-- What is written for an item: where it starts an item of a mode, which faults stand in it there, and which start it is.
use Rattle.std.specs.Prelude.{ℕ, ◌+◌, ◌==◌, ◌&&◌, ◌||◌, nat_le, Bool, true, false, not, if◌then◌else◌, List, [], ◌∷◌, ◌++◌, length, map, take, drop, Option, Some, None, slice_get, position, replicate}
use Rattle.rt_grammar.specs.declared.at.At.{At}
use Rattle.rt_bricks.specs.declared.tree.Parenthesized.{Parenthesized}
use Rattle.rt_bricks.specs.declared.tree.Selector.{Selector}
use Rattle.rt_bricks.specs.declared.tree.Sign.{Sign}
use Rattle.rt_bricks.specs.declared.tree.Sign.TheVariants as sign
use Rattle.rt_bricks.specs.declared.tree.Start.{Start, out-Start}
use Rattle.rt_bricks.specs.declared.tree.Start.TheFolds.{fold-Start}
use Rattle.rt_bricks.specs.declared.tree.Start.TheOpen.{Start-F}
use Rattle.rt_modes.specs.declared.mode.Field.{Field}
use Rattle.rt_modes.specs.declared.mode.Mode.{Mode, out-Mode}
use Rattle.rt_modes.specs.declared.mode.Mode.TheOpen.{Mode-F}
use Rattle.rt_modes.specs.declared.mode.RecordDef.{RecordDef}
use Rattle.rt_tree_nodes.specs.declared.brick.DataStart.{DataStart}
use Rattle.rt_tree_nodes.specs.declared.brick.DataStart.TheVariants as start
use Rattle.rt_check_faults.specs.declared.fault.CheckFault.{CheckFault}
use Rattle.rt_exprs.specs.Sights.{Sight}
use Rattle.rt_exprs.specs.Modes.{is_byte}
use Rattle.rt_exprs.specs.Names.{find}
use Rattle.rt_exprs.specs.Operands.{is_label}
use Rattle.rt_check_module.specs.declared.parts.Wanted.{Wanted as SeenWanted}
use Rattle.rt_check_module.specs.declared.parts.Wanted.TheVariants as seen
use Rattle.rt_check_module.specs.Places.{Found, found, unfit_faults, place_fits, private_faults, place_made}
use Rattle.rt_words.specs.Word.{wrap_sub}
use Rattle.rt_check_declared.specs.Written.{Names}

-- What is written: how many copies of it stand there; the faults of the names in it that are unknown or unfit; and where a mode
-- is wanted, whether it starts an item of it, the places of SVC data in it whose reference would be taken, the items of
-- the strings in it that are strings of the module, and what it is if it starts the item.
pub record Written : Type 0 where
  pub copies : ℕ
  pub unknown : List CheckFault
  pub fits : Mode → Bool
  pub private : Mode → List CheckFault
  pub used : Mode → List ℕ
  pub made : Mode → DataStart

-- ---- copies

abbrev pub copies_by : Option Parenthesized → ℕ
copies_by None = 1
copies_by (Some p) = p.number

abbrev pub copies_in : {A : Type 0} → Start-F A → ℕ
copies_in (Start-F.Number s n c at) = copies_by c
copies_in (Start-F.Text t at) = 1
copies_in (Start-F.Place i ss) = 1
copies_in (Start-F.List ws c at) = copies_by c

abbrev pub copies : Start → ℕ
copies s = copies_in (out-Start s)

abbrev pub total : List ℕ → ℕ
total [] = 0
total (c ∷ cs) = c + total cs

abbrev pub all_stand : List ℕ → Bool
all_stand [] = true
all_stand (c ∷ cs) = nat_le 1 c && all_stand cs

-- the copies of all parts are together so many, and none is written in no copy
abbrev pub covers : ℕ → List ℕ → Bool
covers n cs = all_stand cs && total cs == n

-- ---- the parts of a list

-- What is wanted of the parts of a list: elements of a mode, or fields, as many as stand there; or there is no such list.
pub data Wanted : Type 0 where
  elements : Mode → Wanted
  fields : List Field → Wanted
  nothing : Wanted

abbrev pub if_covered : List ℕ → ℕ → Wanted → Wanted
if_covered cs n w = if covers n cs then w else nothing

abbrev pub wanted_fields : List ℕ → Option RecordDef → Wanted
wanted_fields cs None = nothing
wanted_fields cs (Some d) = if_covered cs (length d.fields) (fields d.fields)

abbrev pub wanted : List RecordDef → List ℕ → Mode-F Mode → Wanted
wanted records cs (Mode-F.Array n m) = if_covered cs n (elements m)
wanted records cs (Mode-F.Record r) = wanted_fields cs (slice_get records r)
wanted records cs _ = nothing

abbrev pub wanted_of : SeenWanted → Wanted
wanted_of (seen.Elements m) = elements m.now
wanted_of (seen.Fields fs) = fields fs.now
wanted_of seen.Nothing = nothing

-- each part starts an element
abbrev pub each_fits : List Written → Mode → Bool
each_fits [] m = true
each_fits (w ∷ ws) m = w.fits m && each_fits ws m

-- it starts a field; whatever is written may start one whose mode can't be known
abbrev pub starts_field : Written → Mode → Bool
starts_field w m = is_label (out-Mode m) || w.fits m

abbrev pub all_fit : Written → List Field → Bool
all_fit w [] = true
all_fit w (f ∷ fs) = starts_field w f.mode && all_fit w fs

-- each part starts the next fields, as many as its copies
abbrev pub fields_fit : List Written → List Field → Bool
fields_fit [] fs = true
fields_fit (w ∷ ws) fs = all_fit w (take w.copies fs) && fields_fit ws (drop w.copies fs)

abbrev pub parts_fit : List Written → Wanted → Bool
parts_fit ws (elements m) = each_fits ws m
parts_fit ws (fields fs) = fields_fit ws fs
parts_fit ws nothing = false

-- what is found in each part, by elements and by fields
module _ {A : Type 0} (find_in : Written → Mode → List A) where
  abbrev pub in_each : List Written → Mode → List A
  in_each [] m = []
  in_each (w ∷ ws) m = find_in w m ++ in_each ws m

  abbrev pub in_all : Written → List Field → List A
  in_all w [] = []
  in_all w (f ∷ fs) = find_in w f.mode ++ in_all w fs

  abbrev pub in_fields : List Written → List Field → List A
  in_fields [] fs = []
  in_fields (w ∷ ws) fs = in_all w (take w.copies fs) ++ in_fields ws (drop w.copies fs)

  abbrev pub in_parts : List Written → Wanted → List A
  in_parts ws (elements m) = in_each ws m
  in_parts ws (fields fs) = in_fields ws fs
  in_parts ws nothing = []

-- what is made of each part, once for each of its copies
abbrev pub each_made : List Written → Mode → List DataStart
each_made [] m = []
each_made (w ∷ ws) m = replicate w.copies (w.made m) ++ each_made ws m

abbrev pub all_made : Written → List Field → List DataStart
all_made w fs = map (λ f. w.made f.mode) fs

abbrev pub fields_made : List Written → List Field → List DataStart
fields_made [] fs = []
fields_made (w ∷ ws) fs = all_made w (take w.copies fs) ++ fields_made ws (drop w.copies fs)

abbrev pub parts_made : List Written → Wanted → List DataStart
parts_made ws (elements m) = each_made ws m
parts_made ws (fields fs) = fields_made ws fs
parts_made ws nothing = []

abbrev pub all_unknown : List Written → List CheckFault
all_unknown [] = []
all_unknown (w ∷ ws) = w.unknown ++ all_unknown ws

-- ---- numbers and strings

abbrev pub is_negative : Option Sign → Bool
is_negative (Some sign.Minus) = true
is_negative _ = false

-- BYTE 0 to 255 without minus; INT and FRAC any number
abbrev pub number_fits : Option Sign → ℕ → Mode-F Mode → Bool
number_fits s n Mode-F.Byte = not (is_negative s) && nat_le n 255
number_fits s n Mode-F.Int = true
number_fits s n Mode-F.Frac = true
number_fits s n _ = false

-- as 16 bits, negated where minus stands
abbrev pub word : Option Sign → ℕ → ℕ
word s n = if is_negative s then wrap_sub 0 n else n

-- an ARRAY BYTE of just as many bytes, or REF ARRAY BYTE
abbrev pub text_fits : ℕ → Mode-F Mode → Bool
text_fits bytes (Mode-F.Array n m) = is_byte (out-Mode m) && bytes == n
text_fits bytes (Mode-F.RefArray m) = is_byte (out-Mode m)
text_fits bytes _ = false

-- a string that doesn't start an array is one of the module's
abbrev pub text_used : ℕ → Mode-F Mode → List ℕ
text_used item (Mode-F.RefArray m) = item ∷ []
text_used item _ = []

abbrev pub number_by : Option ℕ → ℕ
number_by None = 0
number_by (Some n) = n

-- The number of a string of the module, which begins at an item: its place among the items of all.
abbrev pub number_of : List ℕ → ℕ → ℕ
number_of strings item = number_by (position (λ x. x == item) strings)

abbrev pub text_made : List ℕ → ℕ → Mode-F Mode → DataStart
text_made bytes number (Mode-F.Array n m) = start.List (map (λ b. start.Number b) bytes)
text_made bytes number _ = start.Text number

-- ---- the whole

-- where names stand for this, and the strings of the module begin at these items
module _ (records : List RecordDef) (names : Names) (strings : List ℕ) where
  abbrev pub written_place : At → List Selector → Found → Written
  written_place at ss f = record {
    copies = 1;
    unknown = unfit_faults f;
    fits = λ m. place_fits f m;
    private = λ m. private_faults at f m;
    used = λ m. [];
    made = λ m. place_made records ss f;
  }

  abbrev pub written_list : List Written → ℕ → (Mode → Wanted) → Written
  written_list ws n want = record {
    copies = n;
    unknown = all_unknown ws;
    fits = λ m. parts_fit ws (want m);
    private = λ m. in_parts (λ w. w.private) ws (want m);
    used = λ m. in_parts (λ w. w.used) ws (want m);
    made = λ m. start.List (parts_made ws (want m));
  }

  abbrev pub written_layer : Start-F Written → Written
  written_layer (Start-F.Number s n c at) = record {
    copies = copies_by c;
    unknown = [];
    fits = λ m. number_fits s n (out-Mode m);
    private = λ m. [];
    used = λ m. [];
    made = λ m. start.Number (word s n);
  }
  written_layer (Start-F.Text t at) = record {
    copies = 1;
    unknown = [];
    fits = λ m. text_fits (length t) (out-Mode m);
    private = λ m. [];
    used = λ m. text_used at.item (out-Mode m);
    made = λ m. text_made t (number_of strings at.item) (out-Mode m);
  }
  written_layer (Start-F.Place i ss) = written_place i.at ss (found records i.at ss (names i.name))
  written_layer (Start-F.List ws c at) = written_list ws (copies_by c) (λ m. wanted records (map (λ w. w.copies) ws) (out-Mode m))

  abbrev pub written : Start → Written
  written = fold-Start Written written_layer

-- the same in a scope
abbrev pub written_in : Sight → Start → Written
written_in s = written s.records (find s) s.strings
