-- One more field of an attribute type: it is put where none before has its word.
use Rattle.std.proofs.Common.{◌≡◌, ℕ, Bool, true, false, List, [], ◌∷◌, ◌++◌, Option, filter_map, refl, sym, ap, ◌∙◌}
use Rattle.std.specs.Prelude.{codes}
use Rattle.std.specs.List.{AllByRecursion, list_any}
use Rattle.definitions.specs.declared.element.Sort.TheVariants as sorts
use Rattle.definitions.specs.declared.element.Element.{Element}
use Rattle.definitions.specs.declared.element.ElementField.{ElementField}
use Rattle.definitions.specs.declared.element.ElementField.TheVariants as element_fields
use Rattle.definitions.specs.declared.type_field.Reference.TheVariants as references
use Rattle.definitions.specs.declared.type_field.Flag.TheVariants as flags
use Rattle.definitions.specs.declared.type_field.Usage.{Usage}
use Rattle.definitions.specs.declared.type_field.TypeField.{TypeField}
use Rattle.definitions.specs.declared.type_field.TypeField.TheVariants as fields
use Rattle.definitions.specs.declared.type_definition.TypeDefinition.{TypeDefinition}
use Rattle.definitions.specs.Elements.{is_word, unless, is_some_list}
use Rattle.definitions.specs.TypeDefinitions.{with_flag, with_reference, with_element, with_field}
use Rattle.definitions.specs.Tokens.{Token}
use Rattle.definitions.specs.Grammar.{element_word, first, element_said}
use Rattle.definitions.specs.TypeGrammar.{IsTypeField, type_word, element_in, superior_in, equality_in, ordering_in, substrings_in, syntax_in, single_in, collective_in, fixed_in, usage_in, type_said}
use Rattle.definitions.proofs.Keywords.{no_keyword}
use Rattle.definitions.proofs.Said.{with_more, pushed, passes, any_said, all_pass, put_first, put_flag}
use Rattle.definitions.proofs.ElementSaid.{IsGoodElement, element_good, other_word, element_puts}

abbrev pub IsGood : TypeField → Type 0
IsGood (fields.Element field) = IsGoodElement field
IsGood (fields.Flag flag) = Unit {0}
IsGood (fields.Reference reference name) = Unit {0}
IsGood (fields.Usage usage) = Unit {0}

pub type_good : (field : TypeField) (tokens : List Token) → IsTypeField field tokens → IsGood field
type_good (fields.Element field) tokens is = element_good sorts.AttributeType field tokens is
type_good (fields.Flag flag) tokens is = tt
type_good (fields.Reference reference name) tokens is = tt
type_good (fields.Usage usage) tokens is = tt

-- ---- words

-- for each kind of field
pub each_kind : (P : TypeField → Type 0)
    → ((names : List (List ℕ)) → P (fields.Element (element_fields.Names names))) → P (fields.Element element_fields.Description) → P (fields.Element element_fields.Obsolete) → ((name : List ℕ) → P (fields.Element (element_fields.Extension name)))
    → P (fields.Flag flags.SingleValue) → P (fields.Flag flags.Collective) → P (fields.Flag flags.NoUserModification)
    → ((name : List ℕ) → P (fields.Reference references.Superior name)) → ((name : List ℕ) → P (fields.Reference references.Equality name)) → ((name : List ℕ) → P (fields.Reference references.Ordering name))
    → ((name : List ℕ) → P (fields.Reference references.Substrings name)) → ((name : List ℕ) → P (fields.Reference references.Syntax name)) → ((usage : Usage) → P (fields.Usage usage))
    → (field : TypeField) → P field
each_kind P a b c d e f g h i j k l m (fields.Element (element_fields.Names names)) = a names
each_kind P a b c d e f g h i j k l m (fields.Element element_fields.Description) = b
each_kind P a b c d e f g h i j k l m (fields.Element element_fields.Obsolete) = c
each_kind P a b c d e f g h i j k l m (fields.Element (element_fields.Extension name)) = d name
each_kind P a b c d e f g h i j k l m (fields.Flag flags.SingleValue) = e
each_kind P a b c d e f g h i j k l m (fields.Flag flags.Collective) = f
each_kind P a b c d e f g h i j k l m (fields.Flag flags.NoUserModification) = g
each_kind P a b c d e f g h i j k l m (fields.Reference references.Superior name) = h name
each_kind P a b c d e f g h i j k l m (fields.Reference references.Equality name) = i name
each_kind P a b c d e f g h i j k l m (fields.Reference references.Ordering name) = j name
each_kind P a b c d e f g h i j k l m (fields.Reference references.Substrings name) = k name
each_kind P a b c d e f g h i j k l m (fields.Reference references.Syntax name) = l name
each_kind P a b c d e f g h i j k l m (fields.Usage usage) = m usage

-- a field has this word exactly where it says something of this
abbrev pub IsLike : {A : Type 0} → List ℕ → (TypeField → Option A) → TypeField → Type 0
IsLike word says field = IsGood field → is_word word (type_word field) ≡ passes (λ x. true) (says field)

pub superior_like : (field : TypeField) → IsLike (codes "SUP") superior_in field
superior_like = each_kind (IsLike (codes "SUP") superior_in) (λ names h. refl) (λ h. refl) (λ h. refl) (λ name h. no_keyword name h (codes "SUP") refl) (λ h. refl) (λ h. refl) (λ h. refl) (λ name h. refl) (λ name h. refl) (λ name h. refl) (λ name h. refl) (λ name h. refl) (λ usage h. refl)

pub equality_like : (field : TypeField) → IsLike (codes "EQUALITY") equality_in field
equality_like = each_kind (IsLike (codes "EQUALITY") equality_in) (λ names h. refl) (λ h. refl) (λ h. refl) (λ name h. no_keyword name h (codes "EQUALITY") refl) (λ h. refl) (λ h. refl) (λ h. refl) (λ name h. refl) (λ name h. refl) (λ name h. refl) (λ name h. refl) (λ name h. refl) (λ usage h. refl)

pub ordering_like : (field : TypeField) → IsLike (codes "ORDERING") ordering_in field
ordering_like = each_kind (IsLike (codes "ORDERING") ordering_in) (λ names h. refl) (λ h. refl) (λ h. refl) (λ name h. no_keyword name h (codes "ORDERING") refl) (λ h. refl) (λ h. refl) (λ h. refl) (λ name h. refl) (λ name h. refl) (λ name h. refl) (λ name h. refl) (λ name h. refl) (λ usage h. refl)

pub substrings_like : (field : TypeField) → IsLike (codes "SUBSTR") substrings_in field
substrings_like = each_kind (IsLike (codes "SUBSTR") substrings_in) (λ names h. refl) (λ h. refl) (λ h. refl) (λ name h. no_keyword name h (codes "SUBSTR") refl) (λ h. refl) (λ h. refl) (λ h. refl) (λ name h. refl) (λ name h. refl) (λ name h. refl) (λ name h. refl) (λ name h. refl) (λ usage h. refl)

pub syntax_like : (field : TypeField) → IsLike (codes "SYNTAX") syntax_in field
syntax_like = each_kind (IsLike (codes "SYNTAX") syntax_in) (λ names h. refl) (λ h. refl) (λ h. refl) (λ name h. no_keyword name h (codes "SYNTAX") refl) (λ h. refl) (λ h. refl) (λ h. refl) (λ name h. refl) (λ name h. refl) (λ name h. refl) (λ name h. refl) (λ name h. refl) (λ usage h. refl)

pub single_like : (field : TypeField) → IsLike (codes "SINGLE-VALUE") single_in field
single_like = each_kind (IsLike (codes "SINGLE-VALUE") single_in) (λ names h. refl) (λ h. refl) (λ h. refl) (λ name h. no_keyword name h (codes "SINGLE-VALUE") refl) (λ h. refl) (λ h. refl) (λ h. refl) (λ name h. refl) (λ name h. refl) (λ name h. refl) (λ name h. refl) (λ name h. refl) (λ usage h. refl)

pub collective_like : (field : TypeField) → IsLike (codes "COLLECTIVE") collective_in field
collective_like = each_kind (IsLike (codes "COLLECTIVE") collective_in) (λ names h. refl) (λ h. refl) (λ h. refl) (λ name h. no_keyword name h (codes "COLLECTIVE") refl) (λ h. refl) (λ h. refl) (λ h. refl) (λ name h. refl) (λ name h. refl) (λ name h. refl) (λ name h. refl) (λ name h. refl) (λ usage h. refl)

pub fixed_like : (field : TypeField) → IsLike (codes "NO-USER-MODIFICATION") fixed_in field
fixed_like = each_kind (IsLike (codes "NO-USER-MODIFICATION") fixed_in) (λ names h. refl) (λ h. refl) (λ h. refl) (λ name h. no_keyword name h (codes "NO-USER-MODIFICATION") refl) (λ h. refl) (λ h. refl) (λ h. refl) (λ name h. refl) (λ name h. refl) (λ name h. refl) (λ name h. refl) (λ name h. refl) (λ usage h. refl)

pub usage_like : (field : TypeField) → IsLike (codes "USAGE") usage_in field
usage_like = each_kind (IsLike (codes "USAGE") usage_in) (λ names h. refl) (λ h. refl) (λ h. refl) (λ name h. no_keyword name h (codes "USAGE") refl) (λ h. refl) (λ h. refl) (λ h. refl) (λ name h. refl) (λ name h. refl) (λ name h. refl) (λ name h. refl) (λ name h. refl) (λ usage h. refl)

elements_like : (field : ElementField) → IsGoodElement field → (other : TypeField) → IsGood other → is_word (element_word field) (type_word other) ≡ passes (λ o. is_word (element_word field) (element_word o)) (element_in other)
elements_like field good (fields.Element other) h = refl
elements_like field good (fields.Flag flags.SingleValue) h = other_word field good (codes "SINGLE-VALUE") refl refl refl refl
elements_like field good (fields.Flag flags.Collective) h = other_word field good (codes "COLLECTIVE") refl refl refl refl
elements_like field good (fields.Flag flags.NoUserModification) h = other_word field good (codes "NO-USER-MODIFICATION") refl refl refl refl
elements_like field good (fields.Reference references.Superior name) h = other_word field good (codes "SUP") refl refl refl refl
elements_like field good (fields.Reference references.Equality name) h = other_word field good (codes "EQUALITY") refl refl refl refl
elements_like field good (fields.Reference references.Ordering name) h = other_word field good (codes "ORDERING") refl refl refl refl
elements_like field good (fields.Reference references.Substrings name) h = other_word field good (codes "SUBSTR") refl refl refl refl
elements_like field good (fields.Reference references.Syntax name) h = other_word field good (codes "SYNTAX") refl refl refl refl
elements_like field good (fields.Usage usage) h = other_word field good (codes "USAGE") refl refl refl refl

pub elements_good : (front : List TypeField) → AllByRecursion IsGood front → AllByRecursion IsGoodElement (filter_map element_in front)
elements_good [] h = tt
elements_good (fields.Element field ∷ front) h = (h.0, elements_good front h.1)
elements_good (fields.Flag flag ∷ front) h = elements_good front h.1
elements_good (fields.Reference reference name ∷ front) h = elements_good front h.1
elements_good (fields.Usage usage ∷ front) h = elements_good front h.1

-- ---- one more

element_into : (d : TypeDefinition) (t : Bool) (element : Element) → with_element d (unless t element) ≡ unless t (record d { element = element })
element_into d true element = refl
element_into d false element = refl

module _ (oid : List ℕ) (front : List TypeField) where
  grown : TypeField → TypeDefinition
  grown field =
      record {
        element = element_said oid (with_more (element_in field) (filter_map element_in front));
        superior = first (with_more (superior_in field) (filter_map superior_in front));
        equality = first (with_more (equality_in field) (filter_map equality_in front));
        ordering = first (with_more (ordering_in field) (filter_map ordering_in front));
        substrings = first (with_more (substrings_in field) (filter_map substrings_in front));
        syntax = first (with_more (syntax_in field) (filter_map syntax_in front));
        is_single_value = is_some_list (with_more (single_in field) (filter_map single_in front));
        is_collective = is_some_list (with_more (collective_in field) (filter_map collective_in front));
        is_fixed = is_some_list (with_more (fixed_in field) (filter_map fixed_in front));
        usage = first (with_more (usage_in field) (filter_map usage_in front));
      }

  grows : (field : TypeField) → type_said oid (front ++ field ∷ []) ≡ grown field
  unfolding grown
  grows field =
      (λ i.
      record {
        element = element_said oid (pushed element_in front field i);
        superior = first (pushed superior_in front field i);
        equality = first (pushed equality_in front field i);
        ordering = first (pushed ordering_in front field i);
        substrings = first (pushed substrings_in front field i);
        syntax = first (pushed syntax_in front field i);
        is_single_value = is_some_list (pushed single_in front field i);
        is_collective = is_some_list (pushed collective_in front field i);
        is_fixed = is_some_list (pushed fixed_in front field i);
        usage = first (pushed usage_in front field i);
      })

  module _ (good : AllByRecursion IsGood front) where
    -- some field has this word exactly where something is said of this
    like : {A : Type 0} (word : List ℕ) (says : TypeField → Option A) → ((field : TypeField) → IsLike word says field) → is_some_list (filter_map says front) ≡ list_any (λ g. is_word word (type_word g)) front
    like word says same = sym (any_said IsGood (λ g. is_word word (type_word g)) says (λ x. true) same front good ∙ all_pass (filter_map says front))

    abbrev d : TypeDefinition
    d = type_said oid front

    element_put : (field : ElementField) → IsGoodElement field → with_field d (fields.Element field) ≡ unless (list_any (λ g. is_word (element_word field) (type_word g)) front) (type_said oid (front ++ fields.Element field ∷ []))
    unfolding with_field grown
    element_put field h =
        let es = filter_map element_in front in
        let any = any_said IsGood (λ g. is_word (element_word field) (type_word g)) element_in (λ o. is_word (element_word field) (element_word o)) (elements_like field h) front good in
        ap (with_element d) (element_puts oid es field (elements_good front good) h)
        ∙ element_into d (list_any (λ o. is_word (element_word field) (element_word o)) es) (element_said oid (es ++ field ∷ []))
        ∙ (λ i. unless (sym any i) (sym (grows (fields.Element field)) i))

    single_put : with_field d (fields.Flag flags.SingleValue) ≡ unless (list_any (λ g. is_word (codes "SINGLE-VALUE") (type_word g)) front) (type_said oid (front ++ fields.Flag flags.SingleValue ∷ []))
    unfolding with_field with_flag grown
    single_put =
        put_flag (λ (t : Bool). record d { is_single_value = t }) (filter_map single_in front) flags.SingleValue
        ∙ (λ i. unless (like (codes "SINGLE-VALUE") single_in single_like i) (sym (grows (fields.Flag flags.SingleValue)) i))

    collective_put : with_field d (fields.Flag flags.Collective) ≡ unless (list_any (λ g. is_word (codes "COLLECTIVE") (type_word g)) front) (type_said oid (front ++ fields.Flag flags.Collective ∷ []))
    unfolding with_field with_flag grown
    collective_put =
        put_flag (λ (t : Bool). record d { is_collective = t }) (filter_map collective_in front) flags.Collective
        ∙ (λ i. unless (like (codes "COLLECTIVE") collective_in collective_like i) (sym (grows (fields.Flag flags.Collective)) i))

    fixed_put : with_field d (fields.Flag flags.NoUserModification) ≡ unless (list_any (λ g. is_word (codes "NO-USER-MODIFICATION") (type_word g)) front) (type_said oid (front ++ fields.Flag flags.NoUserModification ∷ []))
    unfolding with_field with_flag grown
    fixed_put =
        put_flag (λ (t : Bool). record d { is_fixed = t }) (filter_map fixed_in front) flags.NoUserModification
        ∙ (λ i. unless (like (codes "NO-USER-MODIFICATION") fixed_in fixed_like i) (sym (grows (fields.Flag flags.NoUserModification)) i))

    superior_put : (name : List ℕ) → with_field d (fields.Reference references.Superior name) ≡ unless (list_any (λ g. is_word (codes "SUP") (type_word g)) front) (type_said oid (front ++ fields.Reference references.Superior name ∷ []))
    unfolding with_field with_reference grown
    superior_put name =
        put_first (λ (s : Option (List ℕ)). record d { superior = s }) (filter_map superior_in front) name
        ∙ (λ i. unless (like (codes "SUP") superior_in superior_like i) (sym (grows (fields.Reference references.Superior name)) i))

    equality_put : (name : List ℕ) → with_field d (fields.Reference references.Equality name) ≡ unless (list_any (λ g. is_word (codes "EQUALITY") (type_word g)) front) (type_said oid (front ++ fields.Reference references.Equality name ∷ []))
    unfolding with_field with_reference grown
    equality_put name =
        put_first (λ (s : Option (List ℕ)). record d { equality = s }) (filter_map equality_in front) name
        ∙ (λ i. unless (like (codes "EQUALITY") equality_in equality_like i) (sym (grows (fields.Reference references.Equality name)) i))

    ordering_put : (name : List ℕ) → with_field d (fields.Reference references.Ordering name) ≡ unless (list_any (λ g. is_word (codes "ORDERING") (type_word g)) front) (type_said oid (front ++ fields.Reference references.Ordering name ∷ []))
    unfolding with_field with_reference grown
    ordering_put name =
        put_first (λ (s : Option (List ℕ)). record d { ordering = s }) (filter_map ordering_in front) name
        ∙ (λ i. unless (like (codes "ORDERING") ordering_in ordering_like i) (sym (grows (fields.Reference references.Ordering name)) i))

    substrings_put : (name : List ℕ) → with_field d (fields.Reference references.Substrings name) ≡ unless (list_any (λ g. is_word (codes "SUBSTR") (type_word g)) front) (type_said oid (front ++ fields.Reference references.Substrings name ∷ []))
    unfolding with_field with_reference grown
    substrings_put name =
        put_first (λ (s : Option (List ℕ)). record d { substrings = s }) (filter_map substrings_in front) name
        ∙ (λ i. unless (like (codes "SUBSTR") substrings_in substrings_like i) (sym (grows (fields.Reference references.Substrings name)) i))

    syntax_put : (name : List ℕ) → with_field d (fields.Reference references.Syntax name) ≡ unless (list_any (λ g. is_word (codes "SYNTAX") (type_word g)) front) (type_said oid (front ++ fields.Reference references.Syntax name ∷ []))
    unfolding with_field with_reference grown
    syntax_put name =
        put_first (λ (s : Option (List ℕ)). record d { syntax = s }) (filter_map syntax_in front) name
        ∙ (λ i. unless (like (codes "SYNTAX") syntax_in syntax_like i) (sym (grows (fields.Reference references.Syntax name)) i))

    usage_put : (usage : Usage) → with_field d (fields.Usage usage) ≡ unless (list_any (λ g. is_word (codes "USAGE") (type_word g)) front) (type_said oid (front ++ fields.Usage usage ∷ []))
    unfolding with_field grown
    usage_put usage =
        put_first (λ (s : Option Usage). record d { usage = s }) (filter_map usage_in front) usage
        ∙ (λ i. unless (like (codes "USAGE") usage_in usage_like i) (sym (grows (fields.Usage usage)) i))

pub type_puts : (oid : List ℕ) (front : List TypeField) (field : TypeField) → AllByRecursion IsGood front → IsGood field
    → with_field (type_said oid front) field ≡ unless (list_any (λ g. is_word (type_word field) (type_word g)) front) (type_said oid (front ++ field ∷ []))
type_puts oid front (fields.Element field) h good = element_put oid front h field good
type_puts oid front (fields.Flag flags.SingleValue) h good = single_put oid front h
type_puts oid front (fields.Flag flags.Collective) h good = collective_put oid front h
type_puts oid front (fields.Flag flags.NoUserModification) h good = fixed_put oid front h
type_puts oid front (fields.Reference references.Superior name) h good = superior_put oid front h name
type_puts oid front (fields.Reference references.Equality name) h good = equality_put oid front h name
type_puts oid front (fields.Reference references.Ordering name) h good = ordering_put oid front h name
type_puts oid front (fields.Reference references.Substrings name) h good = substrings_put oid front h name
type_puts oid front (fields.Reference references.Syntax name) h good = syntax_put oid front h name
type_puts oid front (fields.Usage usage) h good = usage_put oid front h usage
