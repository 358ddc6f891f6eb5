-- Laws of images.
use Rattle.std.specs.Prelude.{◌≡◌, ℕ, ◌%◌, ◌<◌, ◌≤◌, ◌⊎◌, List, [], ◌++◌, length}
use Rattle.std.specs.List.{AllByRecursion}
use Rattle.rt_image.specs.declared.image.ImageParts.{ImageParts}
use Rattle.rt_image.specs.Grammar.{IsImage, IsNoImage}
use Rattle.rt_image.specs.Memory.{code_end, data_end, block_at, brick_at, brick_end}
use Rattle.rt_image.specs.Ranges.{IsByte, HasImageRanges}

-- ---- bytes and images

-- what bytes are is in the ranges, and all that is in the ranges is what some bytes are
abbrev pub AreInRange : Type 0
AreInRange = (bytes : List ℕ) (i : ImageParts) → IsImage bytes i → HasImageRanges i

abbrev pub HaveASpelling : Type 0
HaveASpelling = (i : ImageParts) → HasImageRanges i → (bytes : List ℕ) × IsImage bytes i

-- an image has one spelling, and none begins that of another
abbrev pub HaveOneSpelling : Type 0
HaveOneSpelling = (bytes others : List ℕ) (i : ImageParts) → IsImage bytes i → IsImage others i → bytes ≡ others

abbrev pub NoneBegins : Type 0
NoneBegins = (bytes rest : List ℕ) (i j : ImageParts) → IsImage bytes i → IsImage (bytes ++ rest) j → (rest ≡ []) × (i ≡ j)

-- bytes are an image or are refused at one place, and not both
abbrev pub AreOrAreNot : Type 0
AreOrAreNot = (bytes : List ℕ) → AllByRecursion IsByte bytes → ((i : ImageParts) × IsImage bytes i) ⊎ ((p : ℕ) × IsNoImage bytes p)

abbrev pub NeverBoth : Type 0
NeverBoth = (bytes : List ℕ) (i : ImageParts) (p : ℕ) → IsImage bytes i → IsNoImage bytes p → ⊥

abbrev pub HaveOnePlace : Type 0
HaveOnePlace = (bytes : List ℕ) (p q : ℕ) → IsNoImage bytes p → IsNoImage bytes q → p ≡ q

-- ---- where the parts of an image lie

-- the parts lie one behind another, and so no two overlap
pub record LieInOrder (i : ImageParts) : Type 0 where
  pub data_behind_code : code_end i ≤ data_end i
  pub blocks_behind_data : (n : ℕ) → data_end i ≤ block_at i n
  pub bricks_behind_blocks : (n : ℕ) → n < length i.tasks → brick_at i n ≤ brick_end i n
  pub blocks_behind_bricks : (m n : ℕ) → m < n → n < length i.tasks → brick_end i m ≤ block_at i n

-- no address of a part passes 157777 octal, and each part begins at an even one
pub record LieInMemory (i : ImageParts) : Type 0 where
  pub code : code_end i ≤ 57344
  pub data_part : data_end i ≤ 57344
  pub bricks : (n : ℕ) → n < length i.tasks → brick_end i n ≤ 57344
  pub even_code_end : code_end i % 2 ≡ 0
  pub even_blocks : (n : ℕ) → block_at i n % 2 ≡ 0
  pub even_bricks : (n : ℕ) → brick_at i n % 2 ≡ 0
