-- One more field of an object class: it is put where none before has its word.
use Rattle.std.proofs.Common.{◌≡◌, ℕ, Bool, true, false, List, [], ◌∷◌, ◌++◌, Option, inl, inr, filter_map, refl, sym, ap, ◌∙◌}
use Rattle.std.specs.Prelude.{codes}
use Rattle.std.specs.List.{AllByRecursion, list_any}
use Rattle.definitions.specs.declared.element.Sort.TheVariants as sorts
use Rattle.definitions.specs.declared.element.Element.{Element}
use Rattle.definitions.specs.declared.element.ElementField.{ElementField}
use Rattle.definitions.specs.declared.element.ElementField.TheVariants as element_fields
use Rattle.definitions.specs.declared.class_definition.ClassList.TheVariants as lists
use Rattle.base.specs.declared.class_kind.ClassKind.{ClassKind}
use Rattle.definitions.specs.declared.class_definition.ClassField.{ClassField}
use Rattle.definitions.specs.declared.class_definition.ClassField.TheVariants as fields
use Rattle.definitions.specs.declared.class_definition.ClassDefinition.{ClassDefinition}
use Rattle.definitions.specs.Elements.{is_word, unless, is_some_list}
use Rattle.definitions.specs.ClassDefinitions.{with_list, with_element, with_field}
use Rattle.definitions.specs.Tokens.{Token}
use Rattle.definitions.specs.Grammar.{element_word, first, first_list, element_said}
use Rattle.definitions.specs.ClassGrammar.{AreJoined, AreListed, stands_quoted, IsClassField, class_word, element_in, superiors_in, must_in, may_in, kind_in, class_said}
use Rattle.definitions.proofs.Keywords.{no_keyword}
use Rattle.definitions.proofs.Said.{with_more, pushed, passes, any_said, all_pass, put_first}
use Rattle.definitions.proofs.ElementSaid.{IsGoodElement, element_good, other_word, put_names, element_puts}

abbrev pub IsGood : ClassField → Type 0
IsGood (fields.Element field) = IsGoodElement field
IsGood (fields.List which names) = is_some_list names ≡ true
IsGood (fields.Kind kind) = Unit {0}

some_joined : (quotes : Bool) (names : List (List ℕ)) (tokens : List Token) → AreJoined quotes names tokens → is_some_list names ≡ true
some_joined quotes [] tokens are = absurd are
some_joined quotes (name ∷ names) tokens are = refl

some_listed : (quotes : Bool) (names : List (List ℕ)) (tokens : List Token) → AreListed quotes names tokens → is_some_list names ≡ true
some_listed quotes names tokens (inl one) = ap is_some_list one.2
some_listed quotes names tokens (inr some) = some_joined quotes names some.0 some.1

pub class_good : (field : ClassField) (tokens : List Token) → IsClassField field tokens → IsGood field
class_good (fields.Element field) tokens is = element_good sorts.ObjectClass field tokens is
class_good (fields.List which names) tokens is = some_listed (stands_quoted which) names is.rest is.behind
class_good (fields.Kind kind) tokens is = tt

-- ---- words

-- for each kind of field
pub each_kind : (P : ClassField → Type 0)
    → ((names : List (List ℕ)) → P (fields.Element (element_fields.Names names))) → P (fields.Element element_fields.Description) → P (fields.Element element_fields.Obsolete) → ((name : List ℕ) → P (fields.Element (element_fields.Extension name)))
    → ((names : List (List ℕ)) → P (fields.List lists.Superiors names)) → ((names : List (List ℕ)) → P (fields.List lists.Must names)) → ((names : List (List ℕ)) → P (fields.List lists.May names)) → ((kind : ClassKind) → P (fields.Kind kind))
    → (field : ClassField) → P field
each_kind P a b c d e f g h (fields.Element (element_fields.Names names)) = a names
each_kind P a b c d e f g h (fields.Element element_fields.Description) = b
each_kind P a b c d e f g h (fields.Element element_fields.Obsolete) = c
each_kind P a b c d e f g h (fields.Element (element_fields.Extension name)) = d name
each_kind P a b c d e f g h (fields.List lists.Superiors names) = e names
each_kind P a b c d e f g h (fields.List lists.Must names) = f names
each_kind P a b c d e f g h (fields.List lists.May names) = g names
each_kind P a b c d e f g h (fields.Kind kind) = h kind

-- a field has this word exactly where it says something of this
abbrev pub IsLike : {A : Type 0} → List ℕ → (ClassField → Option A) → ClassField → Type 0
IsLike word says field = IsGood field → is_word word (class_word field) ≡ passes (λ x. true) (says field)

pub superiors_like : (field : ClassField) → IsLike (codes "SUP") superiors_in field
superiors_like = each_kind (IsLike (codes "SUP") superiors_in) (λ names h. refl) (λ h. refl) (λ h. refl) (λ name h. no_keyword name h (codes "SUP") refl) (λ names h. refl) (λ names h. refl) (λ names h. refl) (λ kind h. refl)

pub must_like : (field : ClassField) → IsLike (codes "MUST") must_in field
must_like = each_kind (IsLike (codes "MUST") must_in) (λ names h. refl) (λ h. refl) (λ h. refl) (λ name h. no_keyword name h (codes "MUST") refl) (λ names h. refl) (λ names h. refl) (λ names h. refl) (λ kind h. refl)

pub may_like : (field : ClassField) → IsLike (codes "MAY") may_in field
may_like = each_kind (IsLike (codes "MAY") may_in) (λ names h. refl) (λ h. refl) (λ h. refl) (λ name h. no_keyword name h (codes "MAY") refl) (λ names h. refl) (λ names h. refl) (λ names h. refl) (λ kind h. refl)

pub kind_like : (field : ClassField) → IsLike (codes "KIND") kind_in field
kind_like = each_kind (IsLike (codes "KIND") kind_in) (λ names h. refl) (λ h. refl) (λ h. refl) (λ name h. no_keyword name h (codes "KIND") refl) (λ names h. refl) (λ names h. refl) (λ names h. refl) (λ kind h. refl)

elements_like : (field : ElementField) → IsGoodElement field → (other : ClassField) → IsGood other → is_word (element_word field) (class_word other) ≡ passes (λ o. is_word (element_word field) (element_word o)) (element_in other)
elements_like field good (fields.Element other) h = refl
elements_like field good (fields.List lists.Superiors names) h = other_word field good (codes "SUP") refl refl refl refl
elements_like field good (fields.List lists.Must names) h = other_word field good (codes "MUST") refl refl refl refl
elements_like field good (fields.List lists.May names) h = other_word field good (codes "MAY") refl refl refl refl
elements_like field good (fields.Kind kind) h = other_word field good (codes "KIND") refl refl refl refl

elements_good : (front : List ClassField) → AllByRecursion IsGood front → AllByRecursion IsGoodElement (filter_map element_in front)
elements_good [] h = tt
elements_good (fields.Element field ∷ front) h = (h.0, elements_good front h.1)
elements_good (fields.List which names ∷ front) h = elements_good front h.1
elements_good (fields.Kind kind ∷ front) h = elements_good front h.1

superiors_some : (front : List ClassField) → AllByRecursion IsGood front → is_some_list (first_list (filter_map superiors_in front)) ≡ is_some_list (filter_map superiors_in front)
superiors_some [] h = refl
superiors_some (fields.Element field ∷ front) h = superiors_some front h.1
superiors_some (fields.List lists.Superiors names ∷ front) h = h.0
superiors_some (fields.List lists.Must names ∷ front) h = superiors_some front h.1
superiors_some (fields.List lists.May names ∷ front) h = superiors_some front h.1
superiors_some (fields.Kind kind ∷ front) h = superiors_some front h.1

must_some : (front : List ClassField) → AllByRecursion IsGood front → is_some_list (first_list (filter_map must_in front)) ≡ is_some_list (filter_map must_in front)
must_some [] h = refl
must_some (fields.Element field ∷ front) h = must_some front h.1
must_some (fields.List lists.Superiors names ∷ front) h = must_some front h.1
must_some (fields.List lists.Must names ∷ front) h = h.0
must_some (fields.List lists.May names ∷ front) h = must_some front h.1
must_some (fields.Kind kind ∷ front) h = must_some front h.1

may_some : (front : List ClassField) → AllByRecursion IsGood front → is_some_list (first_list (filter_map may_in front)) ≡ is_some_list (filter_map may_in front)
may_some [] h = refl
may_some (fields.Element field ∷ front) h = may_some front h.1
may_some (fields.List lists.Superiors names ∷ front) h = may_some front h.1
may_some (fields.List lists.Must names ∷ front) h = may_some front h.1
may_some (fields.List lists.May names ∷ front) h = h.0
may_some (fields.Kind kind ∷ front) h = may_some front h.1

-- ---- one more

element_into : (d : ClassDefinition) (t : Bool) (element : Element) → with_element d (unless t element) ≡ unless t (record d { element = element })
element_into d true element = refl
element_into d false element = refl

module _ (oid : List ℕ) (front : List ClassField) where
  grown : ClassField → ClassDefinition
  grown field =
      record {
        element = element_said oid (with_more (element_in field) (filter_map element_in front));
        superiors = first_list (with_more (superiors_in field) (filter_map superiors_in front));
        kind = first (with_more (kind_in field) (filter_map kind_in front));
        must = first_list (with_more (must_in field) (filter_map must_in front));
        may = first_list (with_more (may_in field) (filter_map may_in front));
      }

  grows : (field : ClassField) → class_said oid (front ++ field ∷ []) ≡ grown field
  unfolding grown
  grows field =
      (λ i.
      record {
        element = element_said oid (pushed element_in front field i);
        superiors = first_list (pushed superiors_in front field i);
        kind = first (pushed kind_in front field i);
        must = first_list (pushed must_in front field i);
        may = first_list (pushed may_in front field i);
      })

  module _ (good : AllByRecursion IsGood front) where
    -- some field has this word exactly where something is said of this
    like : {A : Type 0} (word : List ℕ) (says : ClassField → Option A) → ((field : ClassField) → IsLike word says field) → is_some_list (filter_map says front) ≡ list_any (λ g. is_word word (class_word g)) front
    like word says same = sym (any_said IsGood (λ g. is_word word (class_word g)) says (λ x. true) same front good ∙ all_pass (filter_map says front))

    abbrev d : ClassDefinition
    d = class_said oid front

    element_put : (field : ElementField) → IsGoodElement field → with_field d (fields.Element field) ≡ unless (list_any (λ g. is_word (element_word field) (class_word g)) front) (class_said oid (front ++ fields.Element field ∷ []))
    unfolding with_field grown
    element_put field h =
        let es = filter_map element_in front in
        let any = any_said IsGood (λ g. is_word (element_word field) (class_word g)) element_in (λ o. is_word (element_word field) (element_word o)) (elements_like field h) front good in
        ap (with_element d) (element_puts oid es field (elements_good front good) h)
        ∙ element_into d (list_any (λ o. is_word (element_word field) (element_word o)) es) (element_said oid (es ++ field ∷ []))
        ∙ (λ i. unless (sym any i) (sym (grows (fields.Element field)) i))

    superiors_put : (names : List (List ℕ)) → with_field d (fields.List lists.Superiors names) ≡ unless (list_any (λ g. is_word (codes "SUP") (class_word g)) front) (class_said oid (front ++ fields.List lists.Superiors names ∷ []))
    unfolding with_field with_list grown
    superiors_put names =
        put_names (λ (ns : List (List ℕ)). record d { superiors = ns }) (filter_map superiors_in front) names (superiors_some front good)
        ∙ (λ i. unless (like (codes "SUP") superiors_in superiors_like i) (sym (grows (fields.List lists.Superiors names)) i))

    must_put : (names : List (List ℕ)) → with_field d (fields.List lists.Must names) ≡ unless (list_any (λ g. is_word (codes "MUST") (class_word g)) front) (class_said oid (front ++ fields.List lists.Must names ∷ []))
    unfolding with_field with_list grown
    must_put names =
        put_names (λ (ns : List (List ℕ)). record d { must = ns }) (filter_map must_in front) names (must_some front good)
        ∙ (λ i. unless (like (codes "MUST") must_in must_like i) (sym (grows (fields.List lists.Must names)) i))

    may_put : (names : List (List ℕ)) → with_field d (fields.List lists.May names) ≡ unless (list_any (λ g. is_word (codes "MAY") (class_word g)) front) (class_said oid (front ++ fields.List lists.May names ∷ []))
    unfolding with_field with_list grown
    may_put names =
        put_names (λ (ns : List (List ℕ)). record d { may = ns }) (filter_map may_in front) names (may_some front good)
        ∙ (λ i. unless (like (codes "MAY") may_in may_like i) (sym (grows (fields.List lists.May names)) i))

    kind_put : (kind : ClassKind) → with_field d (fields.Kind kind) ≡ unless (list_any (λ g. is_word (codes "KIND") (class_word g)) front) (class_said oid (front ++ fields.Kind kind ∷ []))
    unfolding with_field grown
    kind_put kind =
        put_first (λ (s : Option ClassKind). record d { kind = s }) (filter_map kind_in front) kind
        ∙ (λ i. unless (like (codes "KIND") kind_in kind_like i) (sym (grows (fields.Kind kind)) i))

pub class_puts : (oid : List ℕ) (front : List ClassField) (field : ClassField) → AllByRecursion IsGood front → IsGood field
    → with_field (class_said oid front) field ≡ unless (list_any (λ g. is_word (class_word field) (class_word g)) front) (class_said oid (front ++ field ∷ []))
class_puts oid front (fields.Element field) h good = element_put oid front h field good
class_puts oid front (fields.List lists.Superiors names) h good = superiors_put oid front h names
class_puts oid front (fields.List lists.Must names) h good = must_put oid front h names
class_puts oid front (fields.List lists.May names) h good = may_put oid front h names
class_puts oid front (fields.Kind kind) h good = kind_put oid front h kind
