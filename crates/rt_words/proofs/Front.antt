-- What fits a format is bytes in front, which fit whatever follows them.
use Rattle.std.proofs.Common.{ℕ, zero, suc, Bool, List, [], ◌∷◌, ◌++◌, length, Option, refl, sym, ap, subst, ◌∙◌, append_assoc}
use Rattle.std.proofs.lemmas.List.{append-nil}
use Rattle.rt_words.specs.Format.{Format, nothing, never, byte, word, block, tag, name, ◌>>=◌, each, times, passing}
use Rattle.rt_words.specs.FormatLaws.{IsReadBack, NoneBegins}
use Rattle.rt_words.specs.Reading.{Reader}
use Rattle.rt_words.proofs.Right.{Right}
use Rattle.rt_words.proofs.Determined.{one_meaning}

pub front_nothing : {A : Type 0} (a : A) → IsReadBack (nothing a)
front_nothing a = record { back = λ l r x h. ([], h.0, λ s. (refl, h.1)) }

pub front_never : {A : Type 0} → IsReadBack (never {A = A})
front_never = record { back = λ l r x h. absurd h }

pub front_byte : {A : Type 0} (of : ℕ → Option A) → IsReadBack (byte of)
front_byte of = record { back = λ l r x (b, e, f). (b ∷ [], e, λ s. (b, refl, f)) }

pub front_word : {A : Type 0} (of : ℕ → Option A) → IsReadBack (word of)
front_word of = record { back = λ l r x (low, high, e, f). (low ∷ (high ∷ []), e, λ s. (low, high, refl, f)) }

pub front_block : (count : ℕ) → IsReadBack (block count)
front_block count = record { back = λ l r x (e, f). (x, e, λ s. (refl, f)) }

pub front_tag : (bytes : List ℕ) → IsReadBack (tag bytes)
front_tag bytes = record { back = λ l r x e. (bytes, e, λ s. refl) }

pub front_name : IsReadBack name
front_name = record { back = λ l r x (e, f). (length x ∷ x, e, λ s. (refl, f)) }

pub front_then : {A B : Type 0} (P : Format A) (Q : A → Format B) → IsReadBack P → ((a : A) → IsReadBack (Q a)) → IsReadBack (P >>= Q)
front_then P Q g h = record {
  back = λ l r b (m, a, f, k).
      let one = g.back l m a f in
      let two = (h a).back m r b k in (
        one.0 ++ two.0,
        one.1 ∙ ap (λ t. one.0 ++ t) two.1 ∙ sym (append_assoc one.0 two.0 r),
        λ s. (two.0 ++ s, a, subst (λ t. P.Fits t (two.0 ++ s) a) (sym (append_assoc one.0 two.0 s)) (one.2 (two.0 ++ s)), two.2 s),
      );
}

pub front_each : {A : Type 0} (P : List A → Format A) → ((found : List A) → IsReadBack (P found)) → (n : ℕ) (found : List A) → IsReadBack (each P n found)
unfolding each
front_each P g zero found = front_nothing found
front_each P g (suc n) found = front_then (P found) (λ x. each P n (found ++ x ∷ [])) (g found) (λ x. front_each P g n (found ++ x ∷ []))

pub front_times : {A : Type 0} (P : Format A) → IsReadBack P → (n : ℕ) (found : List A) → IsReadBack (times P n found)
front_times P g n found = front_each (λ _. P) (λ _. g) n found

pub front_passing : {A : Type 0} (test : A → Bool) (P : Format A) → IsReadBack P → IsReadBack (passing test P)
front_passing test P g = record { back = λ l r x (f, t). let k = g.back l r x f in (k.0, k.1, λ s. (k.2 s, t)) }

-- a format of which bytes fit is read back and determined: none of its spellings begins another
pub none_begins : {A : Type 0} (p : Reader A) (P : Format A) → Right p P → IsReadBack P → NoneBegins P
none_begins p P g h = λ bytes rest a b f other.
    let k = h.back bytes [] a f in
    let again : P.Fits (bytes ++ rest) rest a = subst (λ t. P.Fits (t ++ rest) rest a) (sym (k.1 ∙ append-nil k.0)) (k.2 rest) in
    one_meaning p P g (bytes ++ rest) rest [] a b again other
