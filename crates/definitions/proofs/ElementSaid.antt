-- One more field of a type or class as such: it is put where none before has its word.
use Rattle.std.proofs.Common.{◌≡◌, ℕ, ◌<◌, Bool, true, false, List, [], ◌∷◌, ◌++◌, length, inl, inr, filter_map, refl, sym, ap, ◌∙◌, arith}
use Rattle.std.specs.Prelude.{codes}
use Rattle.std.specs.List.{AllByRecursion, list_any}
use Rattle.std.specs.Str.{str_eq_ignore_ascii_case}
use Rattle.definitions.specs.declared.element.Sort.{Sort}
use Rattle.definitions.specs.declared.element.Element.{Element}
use Rattle.definitions.specs.declared.element.ElementField.{ElementField}
use Rattle.definitions.specs.declared.element.ElementField.TheVariants as fields
use Rattle.definitions.specs.Elements.{is_word, is_extension, unless, is_some_list, with_element_field}
use Rattle.definitions.specs.Tokens.{Token}
use Rattle.definitions.specs.Grammar.{AreTexts, IsElementField, element_word, first_list, names_in, description_in, obsolete_in, extension_in, element_said}
use Rattle.definitions.proofs.Keywords.{begins_other, no_keyword, lowered, alike, extension_is}
use Rattle.definitions.proofs.Said.{with_more, pushed, passes, any_said, all_pass, put_flag}

-- names aren't none, and the name of an extension is one
abbrev pub IsGoodElement : ElementField → Type 0
IsGoodElement (fields.Names names) = is_some_list names ≡ true
IsGoodElement fields.Description = Unit {0}
IsGoodElement fields.Obsolete = Unit {0}
IsGoodElement (fields.Extension name) = is_extension name ≡ true

some_list : {A : Type 0} (xs : List A) → 0 < length xs → is_some_list xs ≡ true
some_list [] h = absurd (omega arith)
some_list (x ∷ xs) h = refl

some_names : (names : List (List ℕ)) (tokens : List Token) → AreTexts names tokens → is_some_list names ≡ true
some_names names tokens (inl one) = ap is_some_list one.1
some_names names tokens (inr some) = some_list names some.0

pub element_good : (sort : Sort) (field : ElementField) (tokens : List Token) → IsElementField sort field tokens → IsGoodElement field
element_good sort (fields.Names names) tokens is = some_names names is.rest is.behind.0
element_good sort fields.Description tokens is = tt
element_good sort fields.Obsolete tokens is = tt
element_good sort (fields.Extension name) tokens is = extension_is name ∙ is.name_is

-- ---- words

two_alike : (a b : List ℕ) → is_word a b ≡ is_word b a
two_alike a b = by (is_word a b) refl (is_word b a) refl where
  by : (x : Bool) → is_word a b ≡ x → (y : Bool) → is_word b a ≡ y → x ≡ y
  by true h true k = refl
  by false h false k = refl
  by true h false k = sym (alike b a (sym (lowered a b h))) ∙ k
  by false h true k = sym h ∙ alike a b (sym (lowered b a k))

-- an extension has no keyword for its name
pub keyword_apart : (name : List ℕ) → is_extension name ≡ true → (keyword : List ℕ) → begins_other keyword ≡ true → is_word name keyword ≡ false
keyword_apart name h keyword e = two_alike name keyword ∙ no_keyword name h keyword e

-- a field's word is no keyword of another field
pub other_word : (field : ElementField) → IsGoodElement field → (keyword : List ℕ) → is_word (codes "NAME") keyword ≡ false → is_word (codes "DESC") keyword ≡ false → is_word (codes "OBSOLETE") keyword ≡ false → begins_other keyword ≡ true → is_word (element_word field) keyword ≡ false
other_word (fields.Names names) good keyword a b c d = a
other_word fields.Description good keyword a b c d = b
other_word fields.Obsolete good keyword a b c d = c
other_word (fields.Extension name) good keyword a b c d = keyword_apart name good keyword d

-- ---- one more

module _ (oid : List ℕ) (front : List ElementField) where
  grown : ElementField → Element
  grown field =
      record {
        oid = oid;
        names = first_list (with_more (names_in field) (filter_map names_in front));
        is_described = is_some_list (with_more (description_in field) (filter_map description_in front));
        is_obsolete = is_some_list (with_more (obsolete_in field) (filter_map obsolete_in front));
        extensions = with_more (extension_in field) (filter_map extension_in front);
      }

  grows : (field : ElementField) → element_said oid (front ++ field ∷ []) ≡ grown field
  unfolding grown
  grows field =
      (λ i.
      record {
        oid = oid;
        names = first_list (pushed names_in front field i);
        is_described = is_some_list (pushed description_in front field i);
        is_obsolete = is_some_list (pushed obsolete_in front field i);
        extensions = pushed extension_in front field i;
      })

name_like : (f : ElementField) → IsGoodElement f → is_word (codes "NAME") (element_word f) ≡ passes (λ x. true) (names_in f)
name_like (fields.Names names) h = refl
name_like fields.Description h = refl
name_like fields.Obsolete h = refl
name_like (fields.Extension name) h = no_keyword name h (codes "NAME") refl

description_like : (f : ElementField) → IsGoodElement f → is_word (codes "DESC") (element_word f) ≡ passes (λ x. true) (description_in f)
description_like (fields.Names names) h = refl
description_like fields.Description h = refl
description_like fields.Obsolete h = refl
description_like (fields.Extension name) h = no_keyword name h (codes "DESC") refl

obsolete_like : (f : ElementField) → IsGoodElement f → is_word (codes "OBSOLETE") (element_word f) ≡ passes (λ x. true) (obsolete_in f)
obsolete_like (fields.Names names) h = refl
obsolete_like fields.Description h = refl
obsolete_like fields.Obsolete h = refl
obsolete_like (fields.Extension name) h = no_keyword name h (codes "OBSOLETE") refl

extension_like : (name : List ℕ) → is_extension name ≡ true → (f : ElementField) → IsGoodElement f → is_word name (element_word f) ≡ passes (λ other. str_eq_ignore_ascii_case other name) (extension_in f)
extension_like name e (fields.Names names) h = keyword_apart name e (codes "NAME") refl
extension_like name e fields.Description h = keyword_apart name e (codes "DESC") refl
extension_like name e fields.Obsolete h = keyword_apart name e (codes "OBSOLETE") refl
extension_like name e (fields.Extension other) h = refl

first_some : (front : List ElementField) → AllByRecursion IsGoodElement front → is_some_list (first_list (filter_map names_in front)) ≡ is_some_list (filter_map names_in front)
first_some [] h = refl
first_some (fields.Names names ∷ front) h = h.0
first_some (fields.Description ∷ front) h = first_some front h.1
first_some (fields.Obsolete ∷ front) h = first_some front h.1
first_some (fields.Extension name ∷ front) h = first_some front h.1

pub put_names : {D : Type 0} (with : List (List ℕ) → D) (xs : List (List (List ℕ))) (x : List (List ℕ)) → is_some_list (first_list xs) ≡ is_some_list xs
    → unless (is_some_list (first_list xs)) (with x) ≡ unless (is_some_list xs) (with (first_list (xs ++ x ∷ [])))
put_names with [] x e = refl
put_names with (y ∷ ys) x e = (λ i. unless (e i) (with x))

pub element_puts : (oid : List ℕ) (front : List ElementField) (field : ElementField) → AllByRecursion IsGoodElement front → IsGoodElement field
    → with_element_field (element_said oid front) field ≡ unless (list_any (λ g. is_word (element_word field) (element_word g)) front) (element_said oid (front ++ field ∷ []))
unfolding with_element_field grown
element_puts oid front (fields.Names names) h good =
    let d = element_said oid front in
    let xs = filter_map names_in front in
    let any : is_some_list xs ≡ list_any (λ g. is_word (codes "NAME") (element_word g)) front = sym (any_said IsGoodElement (λ g. is_word (codes "NAME") (element_word g)) names_in (λ x. true) name_like front h ∙ all_pass xs) in
    put_names (λ (ns : List (List ℕ)). record d { names = ns }) xs names (first_some front h)
    ∙ (λ i. unless (any i) (sym (grows oid front (fields.Names names)) i))
element_puts oid front fields.Description h good =
    let d = element_said oid front in
    let xs = filter_map description_in front in
    let any : is_some_list xs ≡ list_any (λ g. is_word (codes "DESC") (element_word g)) front = sym (any_said IsGoodElement (λ g. is_word (codes "DESC") (element_word g)) description_in (λ x. true) description_like front h ∙ all_pass xs) in
    put_flag (λ (t : Bool). record d { is_described = t }) xs fields.Description
    ∙ (λ i. unless (any i) (sym (grows oid front fields.Description) i))
element_puts oid front fields.Obsolete h good =
    let d = element_said oid front in
    let xs = filter_map obsolete_in front in
    let any : is_some_list xs ≡ list_any (λ g. is_word (codes "OBSOLETE") (element_word g)) front = sym (any_said IsGoodElement (λ g. is_word (codes "OBSOLETE") (element_word g)) obsolete_in (λ x. true) obsolete_like front h ∙ all_pass xs) in
    put_flag (λ (t : Bool). record d { is_obsolete = t }) xs fields.Obsolete
    ∙ (λ i. unless (any i) (sym (grows oid front fields.Obsolete) i))
element_puts oid front (fields.Extension name) h good =
    let any = any_said IsGoodElement (λ g. is_word name (element_word g)) extension_in (λ other. str_eq_ignore_ascii_case other name) (extension_like name good) front h in
    (λ i. unless (sym any i) (sym (grows oid front (fields.Extension name)) i))
