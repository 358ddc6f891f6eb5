-- What a piece is, and where it ends.
use Rattle.std.specs.Prelude.{◌≡◌, ℕ, true, ◌||◌, ◌==◌, if◌then◌else◌, List, [], ◌∷◌, ◌++◌, map, find, Option, Some, None, IsSome, ◌⊎◌, codes}
use Rattle.std.specs.Str.{bytes_eq}
use Rattle.rt_pieces.specs.declared.item.Mark.{Mark}
use Rattle.rt_pieces.specs.declared.item.Mark.TheVariants as m
use Rattle.rt_pieces.specs.declared.item.Word.{Word}
use Rattle.rt_pieces.specs.declared.item.Word.TheVariants as w
use Rattle.rt_pieces.specs.declared.word.TheConstants.{WORDS}
use Rattle.rt_pieces.specs.declared.number.Base.{Base}
use Rattle.rt_pieces.specs.declared.number.Base.TheVariants as base
use Rattle.rt_pieces.specs.Bytes.{is_letter, is_digit, is_letter_or_digit, is_printable, in_string, upper, Each, Ends}

-- ---- reserved words

abbrev pub spelling : Word → List ℕ
spelling w.Title = codes "TITLE"
spelling w.Option = codes "OPTION"
spelling w.Let = codes "LET"
spelling w.Mode = codes "MODE"
spelling w.Proc = codes "PROC"
spelling w.EndProc = codes "ENDPROC"
spelling w.Data = codes "DATA"
spelling w.EndData = codes "ENDDATA"
spelling w.Stack = codes "STACK"
spelling w.Ent = codes "ENT"
spelling w.Ext = codes "EXT"
spelling w.Svc = codes "SVC"
spelling w.Block = codes "BLOCK"
spelling w.EndBlock = codes "ENDBLOCK"
spelling w.If = codes "IF"
spelling w.Then = codes "THEN"
spelling w.ElseIf = codes "ELSEIF"
spelling w.Else = codes "ELSE"
spelling w.End = codes "END"
spelling w.For = codes "FOR"
spelling w.By = codes "BY"
spelling w.To = codes "TO"
spelling w.Do = codes "DO"
spelling w.Rep = codes "REP"
spelling w.While = codes "WHILE"
spelling w.Goto = codes "GOTO"
spelling w.Switch = codes "SWITCH"
spelling w.Of = codes "OF"
spelling w.Return = codes "RETURN"
spelling w.Val = codes "VAL"
spelling w.Length = codes "LENGTH"
spelling w.Byte = codes "BYTE"
spelling w.Int = codes "INT"
spelling w.Frac = codes "FRAC"
spelling w.Ref = codes "REF"
spelling w.Array = codes "ARRAY"
spelling w.Label = codes "LABEL"
spelling w.Abs = codes "ABS"
spelling w.Not = codes "NOT"
spelling w.And = codes "AND"
spelling w.Or = codes "OR"
spelling w.Mod = codes "MOD"
spelling w.Land = codes "LAND"
spelling w.Lor = codes "LOR"
spelling w.Nev = codes "NEV"
spelling w.Sll = codes "SLL"
spelling w.Srl = codes "SRL"
spelling w.Sla = codes "SLA"
spelling w.Sra = codes "SRA"
spelling w.Bin = codes "BIN"
spelling w.Oct = codes "OCT"
spelling w.Hex = codes "HEX"
spelling w.Real = codes "REAL"
spelling w.Code = codes "CODE"

-- the reserved word that is spelled so
abbrev pub word_of : List ℕ → Option Word
word_of text = find (λ word. bytes_eq (spelling word) text) WORDS

-- the base that a word says, in either case
abbrev pub base_of : List ℕ → Option Base
base_of text =
    if bytes_eq (map upper text) (codes "BIN") then Some base.Two
    else (if bytes_eq (map upper text) (codes "OCT") then Some base.Eight
    else (if bytes_eq (map upper text) (codes "HEX") then Some base.Sixteen else None))

abbrev pub radix : Base → ℕ
radix base.Two = 2
radix base.Eight = 8
radix base.Sixteen = 16

-- ---- marks

-- ; , : . ( ) = # < > + - *
abbrev pub mark_of_one : ℕ → Option Mark
mark_of_one a =
    if a == 59 then Some m.Semicolon else (if a == 44 then Some m.Comma else (if a == 58 then Some m.Colon else (if a == 46 then Some m.Dot
    else (if a == 40 then Some m.Open else (if a == 41 then Some m.Close else (if a == 61 then Some m.Equal else (if a == 35 then Some m.Unequal
    else (if a == 60 then Some m.Less else (if a == 62 then Some m.Greater else (if a == 43 then Some m.Plus else (if a == 45 then Some m.Minus
    else (if a == 42 then Some m.Times else None))))))))))))

-- := <= >= :/
abbrev pub mark_of_two : ℕ → ℕ → Option Mark
mark_of_two a b =
    if a == 58 then (if b == 61 then Some m.Becomes else (if b == 47 then Some m.Divide else None))
    else (if a == 60 then (if b == 61 then Some m.LessOrEqual else None)
    else (if a == 62 then (if b == 61 then Some m.GreaterOrEqual else None) else None))

-- :=: :#:
abbrev pub mark_of_three : ℕ → ℕ → ℕ → Option Mark
mark_of_three a b c =
    if a == 58 then (if c == 58 then (if b == 61 then Some m.Same else (if b == 35 then Some m.Different else None)) else None) else None

abbrev pub mark_of : List ℕ → Option Mark
mark_of [] = None
mark_of (a ∷ []) = mark_of_one a
mark_of (a ∷ b ∷ []) = mark_of_two a b
mark_of (a ∷ b ∷ c ∷ []) = mark_of_three a b c
mark_of (a ∷ b ∷ c ∷ d ∷ more) = None

-- ---- the longest piece: text, where rest follows

-- letters and digits from a letter on, which no letter or digit follows
abbrev pub IsName : List ℕ → List ℕ → Type 0
IsName [] rest = ⊥
IsName (b ∷ bs) rest = (is_letter b ≡ true) × Each is_letter_or_digit bs × Ends is_letter_or_digit rest

-- digits, which no digit follows
abbrev pub IsNumber : List ℕ → List ℕ → Type 0
IsNumber [] rest = ⊥
IsNumber (b ∷ bs) rest = (is_digit b ≡ true) × Each is_digit bs × Ends is_digit rest

-- 'c'
abbrev pub IsCharacter : List ℕ → Type 0
IsCharacter text = (c : ℕ) × (text ≡ 39 ∷ c ∷ 39 ∷ []) × (is_printable c ≡ true)

-- from a quotation mark to the next one, or where none comes in its line, to the end of the line or of the text
abbrev pub IsString : List ℕ → List ℕ → Type 0
IsString text rest = (body : List ℕ) × Each in_string body × ((text ≡ 34 ∷ (body ++ 34 ∷ [])) ⊎ ((text ≡ 34 ∷ body) × Ends (λ b. b == 34 || in_string b) rest))

-- a mark that no longer mark begins with here
abbrev pub IsMark : List ℕ → List ℕ → Type 0
IsMark text rest = IsSome (mark_of text) × ((more after : List ℕ) → rest ≡ more ++ after → IsSome (mark_of (text ++ more)) → more ≡ [])

abbrev pub IsPiece : List ℕ → List ℕ → Type 0
IsPiece text rest = IsName text rest ⊎ (IsNumber text rest ⊎ (IsCharacter text ⊎ (IsString text rest ⊎ IsMark text rest)))
