-- Lines of words.
use Rattle.std.specs.Prelude.{ℕ, List, [], ◌∷◌, ◌++◌, codes, decimal, map}
use Rattle.rt_report.specs.declared.word.Word.{Word}
use Rattle.rt_report.specs.declared.word.Word.TheVariants as word

-- each word behind a space, and the line's end
abbrev pub behind : List (List ℕ) → List ℕ
behind [] = codes "\n"
behind (w ∷ ws) = codes " " ++ (w ++ behind ws)

-- words with one space between them, and the line's end
abbrev pub line : List (List ℕ) → List ℕ
line [] = codes "\n"
line (w ∷ ws) = w ++ behind ws

-- lines, one behind the other
abbrev pub lines : List (List (List ℕ)) → List ℕ
lines [] = []
lines (l ∷ ls) = line l ++ lines ls

-- two names with a point between them
abbrev pub dotted : List ℕ → List ℕ → List ℕ
dotted a b = a ++ (codes "." ++ b)

abbrev pub text_of : Word → List ℕ
text_of (word.Text t) = t.now
text_of (word.Number n) = decimal n
text_of (word.Negative n) = codes "-" ++ decimal n
text_of (word.Dotted a b) = dotted a.now b.now

abbrev pub texts_of : List Word → List (List ℕ)
texts_of = map text_of
