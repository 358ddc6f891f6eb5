-- A list under construction: its elements, and how many more can be pushed without taking memory.
use Rattle.std.specs.Prelude.{ℕ, List, refl}
use Rattle.std.specs.Coded.{Coded, code_by, coded×, coded_ℕ, coded_list}

pub record Built (T : Type 0) : Type 0 where
  pub items : List T
  pub spare : ℕ

-- a list under construction is stored as the pair of its parts
abbrev pub coded_built : {T : Type 0} → Coded T → Coded (Built T)
coded_built {T} c =
    code_by (List T × ℕ) (coded× (coded_list c) coded_ℕ) (λ b. (b.items, b.spare)) (λ p. record { items = p.0; spare = p.1 }) (λ _. refl)
