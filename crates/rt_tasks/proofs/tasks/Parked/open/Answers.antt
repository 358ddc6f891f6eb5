use Rattle.std.proofs.Common.{ℕ, ◌-◌, ◌<◌, List, length, get_or, sym, ap, ◌∙◌, subst, arith}
use Rattle.rt_image.specs.declared.image.ImageParts.{ImageParts}
use Rattle.rt_image.specs.declared.image.ImageTask.{ImageTask}
use Rattle.rt_image.specs.Memory.{words_bytes}
use Rattle.rt_image.specs.Ranges.{HasImageRanges}
use Rattle.rt_tasks.proofs.Starts.{starts, starts_at, lies}
use Rattle.rt_tasks.proofs.tasks.Parked.open.Goals as goal

pub invariant_of-result : goal.invariant_of-result
invariant_of-result c =
    let i = c.parts-parts.result.now in
    let t = c.index-as_slice-n.result in
    let n = c.from-n.result - 1 in
    let there : n < length i.tasks = omega (arith, c.requires.first, c.requires.there, c.from-n.ensures, ap (λ (j : ImageParts). length j.tasks) c.parts-parts.ensures.parts) in
    lies i n t there (c.index-as_slice-n.is ∙ ap (λ (ts : List ImageTask). get_or ts n t) c.as_slice.ensures) c.places-places.result (words_bytes c.in_ok-words.words.items) c.in_ok-words.ensures (subst (λ (j : ImageParts). HasImageRanges j) (sym c.parts-parts.ensures.parts) c.parts-parts.ensures.ranges) c.places-places.ensures.placed

pub returns-clause-start : goal.returns-clause-start
returns-clause-start c =
    let i = c.parts-parts.result.now in
    let t = c.index-as_slice-n.result in
    let n = c.from-n.result - 1 in
    let there : n < length i.tasks = omega (arith, c.requires.first, c.requires.there, c.from-n.ensures, ap (λ (j : ImageParts). length j.tasks) c.parts-parts.ensures.parts) in
    let start = starts i n t there (c.index-as_slice-n.is ∙ ap (λ (ts : List ImageTask). get_or ts n t) c.as_slice.ensures) c.places-places.result (words_bytes c.in_ok-words.words.items) c.in_ok-words.ensures c.registers.result c.places-places.ensures.value c.registers.ensures in
    starts_at i c.args.image.now n (c.args.task - 1) (record { regs = c.registers.result; own = (words_bytes c.in_ok-words.words.items); places = c.places-places.result }) c.parts-parts.ensures.parts (ap (λ (k : ℕ). k - 1) c.from-n.ensures) start

pub returns-clause-order : goal.returns-clause-order
returns-clause-order c =
    let i = c.parts-parts.result.now in
    let t = c.index-as_slice-n.result in
    let n = c.from-n.result - 1 in
    let there : n < length i.tasks = omega (arith, c.requires.first, c.requires.there, c.from-n.ensures, ap (λ (j : ImageParts). length j.tasks) c.parts-parts.ensures.parts) in
    lies i n t there (c.index-as_slice-n.is ∙ ap (λ (ts : List ImageTask). get_or ts n t) c.as_slice.ensures) c.places-places.result (words_bytes c.in_ok-words.words.items) c.in_ok-words.ensures (subst (λ (j : ImageParts). HasImageRanges j) (sym c.parts-parts.ensures.parts) c.parts-parts.ensures.ranges) c.places-places.ensures.placed
