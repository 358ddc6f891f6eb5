-- The code as it is written: jumps forward lead to places, and GOTO and SWITCH to labels, whose numbers are known only at the end.
use Rattle.std.specs.Prelude.{ℕ, ◌+◌, ◌-◌, Bool, true, false, if◌then◌else◌, List, [], ◌∷◌, ◌++◌, length, map, replicate, Option, Some, None, option_map, slice_get, slice_set}
use Rattle.rt_tree_nodes.specs.Tree.{Term, Cond, Is, Both, Either, Stmt, Keep, Clear, Put, Run, Toss, Goto, GiveBack, Back, Switch, Inner, If, For, To, While, Seq, Done, Then, Mark}
use Rattle.rt_work_state.specs.Nodes as n
use Rattle.rt_icode.specs.declared.ins.Ins.{Ins}
use Rattle.rt_icode.specs.declared.ins.Ins.TheVariants as ins
use Rattle.rt_lower.specs.declared.draft.Draft.{Draft}
use Rattle.rt_lower.specs.declared.draft.Piece.{Piece}
use Rattle.rt_lower.specs.declared.draft.Piece.TheVariants as piece
use Rattle.rt_lower.specs.declared.layouts.Layouts.{Layouts}
use Rattle.rt_lower.specs.declared.statements.Parts.{Parts}
use Rattle.rt_lower.specs.Layouts.{number}
use Rattle.rt_lower.specs.Values.{site_of, wanted, written, width_of, value, address, alone}
use Rattle.rt_lower.specs.Code.{Leads, for_head}

-- ---- pieces

abbrev pub whole : List Ins → List Piece
whole = map piece.Whole

abbrev pub put : List Ins → Draft → Draft
put is d = record { code = d.code ++ whole is; places = d.places; labels = d.labels }

abbrev pub add : List Piece → Draft → Draft
add ps d = record { code = d.code ++ ps; places = d.places; labels = d.labels }

-- A place more, whose number is how many there were; it isn't known yet where it is.
abbrev pub opened : Draft → Draft
opened d = record { code = d.code; places = d.places ++ 0 ∷ []; labels = d.labels }

-- the place is where the code ends
abbrev pub here : ℕ → Draft → Draft
here to d = record { code = d.code; places = slice_set d.places to (length d.code); labels = d.labels }

-- ---- labels

abbrev pub listed : Option (Option ℕ) → Option ℕ
listed None = None
listed (Some o) = o

abbrev pub is_there : Option ℕ → Bool
is_there None = false
is_there (Some n) = true

abbrev pub label_in : List (Option ℕ) → ℕ → Option ℕ
label_in ls k = listed (slice_get ls k)

-- at least so many
abbrev pub grown : ℕ → List (Option ℕ) → List (Option ℕ)
grown n ls = ls ++ replicate (n - length ls) None

-- the first place of a label is kept
abbrev pub noted_if : Bool → ℕ → ℕ → List (Option ℕ) → List (Option ℕ)
noted_if true k at ls = ls
noted_if false k at ls = slice_set (grown (k + 1) ls) k (Some at)

abbrev pub noted : ℕ → ℕ → List (Option ℕ) → List (Option ℕ)
noted k at ls = noted_if (is_there (label_in ls k)) k at ls

abbrev pub note : ℕ → Draft → Draft
note k d = record { code = d.code; places = d.places; labels = noted k (length d.code) d.labels }

module _ (l : Layouts) where
  -- ---- conditions

  -- Where the truth is `when` it goes to place `to`, and else on to its end, which is place `end`.
  abbrev pub condition : Cond → Bool → ℕ → ℕ → Draft → Draft
  condition (Is r a b) when to end d = add (piece.Test r when to ∷ []) (put (value l a ++ value l b) d)
  condition (Both t u) when to end d = condition u when to end (here (length d.places) (condition t false (if when then end else to) (length d.places) (opened d)))
  condition (Either t u) when to end d = condition u when to end (here (length d.places) (condition t true (if when then to else end) (length d.places) (opened d)))

  -- the same with a place of its own for its end
  abbrev pub side : Cond → Bool → ℕ → Draft → Draft
  side t when to d = here (length d.places) (condition t when to (length d.places) (opened d))

  -- ---- statements

  abbrev pub switch : Term → List ℕ → Draft → Draft
  switch v ks d = put (ins.Discard ∷ []) (add (map piece.Case ks) (put (value l v) d))

  -- a statement that has no other in it
  abbrev pub simple : Stmt → Draft → Draft
  simple (Keep i v) d = put (value l v ++ ins.SaveLocal i ∷ []) d
  simple (Clear i) d = put (ins.ClearLocal i ∷ []) d
  simple (Put m p v) d = put (wanted (site_of l p) (address l p) ++ (value l v ++ written (width_of m) (site_of l p) ∷ [])) d
  simple (Run v) d = put (alone l v) d
  simple (Toss v) d = put (alone l v) d
  simple (Goto k) d = add (piece.Go k ∷ []) d
  simple (GiveBack v) d = put (value l v ++ ins.GiveUp ∷ []) d
  simple Back d = put (ins.Leave ∷ []) d
  simple (Switch v ks) d = switch v ks d
  simple _ d = d

  -- behind IF: a test, what is done where it holds, and a jump to the end
  abbrev pub arm : ℕ → Cond → (Draft → Draft) → Draft → Draft
  arm end t taken d = here (length d.places) (add (piece.Skip end ∷ []) (taken (side t false (length d.places) (opened d))))

  abbrev mutual
    pub statement : Stmt → Draft → Draft
    statement (Inner q) d = sequence q d
    statement (If t a b) d = here (length d.places) (otherwise (length d.places) b (arm (length d.places) t (sequence a) (opened d)))
    statement (For i start step end q) d =
        let ready = add (piece.CountFor i (length d.places) ∷ []) (put (for_head l i start step end) (opened d)) in
        here (length d.places) (put (ins.TurnFor i (length ready.code) ∷ []) (sequence q ready))
    statement (To i n q) d =
        let ready = add (piece.CountTo i (length d.places) ∷ []) (put (value l n) (opened d)) in
        here (length d.places) (put (ins.TurnTo i (length ready.code) ∷ []) (sequence q ready))
    statement (While t q) d = here (length d.places) (put (ins.Go (length d.code) ∷ []) (sequence q (side t false (length d.places) (opened d))))
    statement s d = simple s d

    -- Behind ELSE. An IF that stands there alone ends where this one does.
    pub otherwise : ℕ → Seq → Draft → Draft
    otherwise end Done d = d
    otherwise end (Mark k q) d = sequence q (note k d)
    otherwise end (Then (If t a b) Done) d = otherwise end b (arm end t (sequence a) d)
    otherwise end (Then s q) d = sequence q (statement s d)

    pub sequence : Seq → Draft → Draft
    sequence Done d = d
    sequence (Then s q) d = sequence q (statement s d)
    sequence (Mark k q) d = sequence q (note k d)

-- ---- an IF that stands alone, as the code has it

pub record IfParts : Type 0 where
  pub test : Cond
  pub taken : Seq
  pub other : Seq

abbrev pub if_parts : Parts → IfParts
if_parts p = record { test = n.cond p.test.now; taken = n.seq p.taken.now; other = n.seq p.other.now }

abbrev pub parts_seen : Option Parts → Option IfParts
parts_seen = option_map if_parts

abbrev pub parts_of : Stmt → Option IfParts
parts_of (If t a b) = Some (record { test = t; taken = a; other = b })
parts_of _ = None

abbrev pub alone_if : Seq → Option IfParts
alone_if (Then s Done) = parts_of s
alone_if _ = None

-- ---- the code, where all places and labels are known

abbrev pub place_in : List ℕ → ℕ → ℕ
place_in places to = number (slice_get places to)

abbrev pub lead_in : List (Option ℕ) → ℕ → ℕ
lead_in labels k = number (label_in labels k)

-- how many instructions a jump to a place leaves out, if it is instruction k
abbrev pub left_out : ℕ → ℕ → ℕ
left_out k at = at - k - 1

module _ (places : ℕ → ℕ) (leads : Leads) where
  abbrev pub laid : ℕ → Piece → Ins
  laid k (piece.Whole i) = i
  laid k (piece.Test r when to) = ins.Test r when (left_out k (places to))
  laid k (piece.Skip to) = ins.Skip (left_out k (places to))
  laid k (piece.CountFor i to) = ins.CountFor i (left_out k (places to))
  laid k (piece.CountTo i to) = ins.CountTo i (left_out k (places to))
  laid k (piece.Go label) = ins.Go (leads label)
  laid k (piece.Case label) = ins.Case (leads label)

  -- pieces from instruction k on
  abbrev pub laid_from : ℕ → List Piece → List Ins
  laid_from k [] = []
  laid_from k (p ∷ ps) = laid k p ∷ laid_from (k + 1) ps

abbrev pub laid_out : Draft → List Ins
laid_out d = laid_from (place_in d.places) (lead_in d.labels) 0 d.code
