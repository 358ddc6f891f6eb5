use Rattle.std.proofs.Common.{rules, sym, ◌∙◌, subst, length, ◌≡◌, ◌≤◌}
use Rattle.std.specs.Prelude.{IfSome}
use Rattle.pdp_code.specs.Code.{words_of}
use Rattle.pdp_code.specs.Decode.{Begins}
use Rattle.pdp_code.proofs.Both.{decoded_words, decoded_found, decoded_long}
use Rattle.pdp_code.proofs.decoding.decode.Goals as goal

pub returns-clause-found : goal.returns-clause-found
returns-clause-found c = subst (λ v. IfSome v (λ d. Begins d.0 c.args.words.now × (d.1 ≡ length (words_of d.0)))) (sym c.find.ensures) (decoded_found c.args.words.now (λ k. search (rules, c.type_inv.words k)))

pub returns-clause-every : goal.returns-clause-every
returns-clause-every c = λ i b. c.find.ensures ∙ decoded_words i c.args.words.now b

pub returns-clause-lengths : goal.returns-clause-lengths
returns-clause-lengths c = subst (λ v. IfSome v (λ d. (1 ≤ d.1) × (d.1 ≤ 3) × (d.1 ≤ length c.args.words.now))) (sym c.find.ensures) (decoded_long c.args.words.now (λ k. search (rules, c.type_inv.words k)))
