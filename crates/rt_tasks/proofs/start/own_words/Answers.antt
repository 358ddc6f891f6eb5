use Rattle.std.proofs.Common.{◌≡◌, ℕ, ◌++◌, List, replicate, ap, ◌∙◌, rules}
use Rattle.rt_image.specs.Memory.{words_bytes}
use Rattle.rt_tasks.proofs.Words.{bytes_of_both, bytes_of_zeros}
use Rattle.rt_tasks.proofs.start.own_words.Goals as goal

pub returns : goal.returns
returns c =
    let n = c.args.stack in
    let block = c.args.block.now in
    let whole : c.into_vec.result.items ≡ block ++ replicate n 0 = search rules in
    ap words_bytes whole ∙ bytes_of_both block (replicate n 0) ∙ ap (λ (r : List ℕ). words_bytes block ++ r) (bytes_of_zeros n)
