-- One size, and fields that lie alike, as the laws say them.
use Rattle.std.proofs.Common.{◌≡◌, ℕ, List, Option, Some, slice_get, subst}
use Rattle.rt_modes.specs.declared.mode.Field.{Field}
use Rattle.rt_modes.specs.declared.mode.ModeTable.{ModeTable}
use Rattle.rt_tree.specs.Opened.{IsTable, FullModesOpen}
use Rattle.rt_tree_laws.specs.DataItems.{FullDataOpen}
use Rattle.rt_sizes_laws.specs.Laws.{LieAlike, FullModesHaveOneSize, RecordsHaveOneSize, ElementsHaveOneSize, RecordsLieAlike, DataLieAlike, FieldsLieAlike}
use Rattle.rt_sizes_laws.proofs.Deeper.{size_of, end_of, place_of, size_grows, end_grows, place_grows}
use Rattle.rt_sizes_laws.proofs.Alike.{AllOne, BothOne, fields_stand, all_one, one_got, one_each, elements_one, records_one, size_carries, end_carries, place_carries, carried, agreed}

pub one_size : FullModesOpen → FullModesHaveOneSize
one_size opens t u m n gt gu one = record {
  one = λ known others a b x y. agreed opens t u gt gu (size_of m) (size_of n) (size_carries opens t u gt gu m n one) (size_grows n) known others a b x y;
  too = λ known others a all x. carried opens t u gt gu known others all (size_of m) (size_of n) (size_carries opens t u gt gu m n one) a x;
}

pub one_record : FullModesOpen → RecordsHaveOneSize
one_record opens t u m n r q known others a b gt gu one o p x y =
    agreed opens t u gt gu (λ f. f r) (λ f. f q) (λ f g up k e. up r q k (record { m = m; n = n; is = o; are = p; one = one }) e) (λ f g up k e. up q k e) known others a b x y

pub one_element : FullModesOpen → ElementsHaveOneSize
one_element opens t u m n e f j k gt gu one o p = let h = elements_one opens t u gt gu m n e f j k o p one in (h.0, h.1, one_size opens t u e f gt gu h.1)

module _ (opens : FullModesOpen) (t u : ModeTable) (gt : IsTable t) (gu : IsTable u) (fs gs : List Field) (all : AllOne opens t u gt gu fs gs) where
  both : (k : ℕ) (f g : Field) → slice_get fs k ≡ Some f → slice_get gs k ≡ Some g → BothOne opens t u gt gu (Some f) (Some g)
  both k f g a b =
      subst (λ (x : Option Field). BothOne opens t u gt gu x (Some g)) a (subst (λ (x : Option Field). BothOne opens t u gt gu (slice_get fs k) x) b (one_got opens t u gt gu fs gs k all))

  pub lie_alike : LieAlike t u fs gs
  lie_alike = record {
    each = one_each opens t u gt gu fs gs all;
    names = λ k f g a b. (both k f g a b).0;
    modes = λ k f g a b. (both k f g a b).1;
    sizes = λ k f g a b. one_size opens t u f.mode g.mode gt gu (both k f g a b).1;
    begin = λ known others k a b x y. agreed opens t u gt gu (place_of fs k) (place_of gs k) (place_carries opens t u gt gu fs gs k all) (place_grows gs k) known others a b x y;
    begin_too = λ known others k a whole x. carried opens t u gt gu known others whole (place_of fs k) (place_of gs k) (place_carries opens t u gt gu fs gs k all) a x;
    end = λ known others a b x y. agreed opens t u gt gu (end_of fs) (end_of gs) (end_carries opens t u gt gu fs gs all) (end_grows gs) known others a b x y;
    end_too = λ known others a whole x. carried opens t u gt gu known others whole (end_of fs) (end_of gs) (end_carries opens t u gt gu fs gs all) a x;
  }

pub records_lie_alike : FullModesOpen → RecordsLieAlike
records_lie_alike opens t u m n r q d e gt gu one o p a b =
    lie_alike opens t u gt gu d.fields e.fields (records_one opens t u gt gu r q d e (record { m = m; n = n; is = o; are = p; one = one }) a b)

pub fields_lie_alike : FullModesOpen → FieldsLieAlike
fields_lie_alike opens t u fs gs gt gu a b same = lie_alike opens t u gt gu fs gs (all_one opens t u gt gu fs gs a b same)

pub data_lie_alike : FullModesOpen → FullDataOpen → DataLieAlike
data_lie_alike opens data_opens t u fs gs gt gu a b same = fields_lie_alike opens t u fs gs gt gu (fields_stand t fs a) (fields_stand u gs b) (data_opens t u fs gs gt gu a b same)
