use Rattle.std.proofs.Common.{◌≡◌, ℕ, ◌+◌, ◌*◌, ◌++◌, ◌∷◌, [], List, drop, subst, sym, rules, arith}
use Rattle.std.specs.Prelude.{slice_index}
use Rattle.rt_image.specs.Memory.{words_bytes}
use Rattle.rt_tasks.proofs.Words.{data_goes_on}
use Rattle.rt_tasks.proofs.start.data_words.Goals as goal

pub loop-n-preserved : goal.loop-n-preserved
loop-n-preserved c =
    let bytes = c.args.bytes.now in
    let n = c.loop-n.n in
    let low = slice_index bytes (2 * n) in
    let high = slice_index bytes (2 * n + 1) in
    let x = low + 256 * high in
    let pushed : c.push.new.self.items ≡ c.loop-n.words.items ++ x ∷ [] = search rules in
    subst (λ (ws : List ℕ). words_bytes ws ++ drop (2 * (n + 1)) bytes ≡ bytes) (sym pushed)
    (data_goes_on c.loop-n.words.items bytes n x (search rules) (omega arith) (omega arith) c.loop-n.invariant)
