-- What definitions of attribute types and of object classes have in common (RFC 4512, 4.1), as tokens.
use Rattle.std.specs.Prelude.{◌≡◌, ℕ, Bool, true, false, ◌&&◌, ◌==◌, ◌<◌, ◌≤◌, ◌⊎◌, List, [], ◌∷◌, ◌++◌, map, length, Option, Some, None, codes, count_by, filter_map}
use Rattle.std.specs.List.{list_all, join_with_byte}
use Rattle.std.specs.Char.{is_ascii_digit}
use Rattle.base.specs.Ascii.{hyphen, full_stop}
use Rattle.definitions.specs.declared.element.Sort.{Sort}
use Rattle.definitions.specs.declared.element.Element.{Element}
use Rattle.definitions.specs.declared.element.ElementField.{ElementField}
use Rattle.definitions.specs.declared.element.ElementField.TheVariants as fields
use Rattle.base.specs.Naming.{is_name}
use Rattle.definitions.specs.Elements.{is_word, is_allowed, is_some_list}
use Rattle.definitions.specs.Tokens.{Token, Opening, Closing, Quoted, Word, AreTokens}

-- ---- parts of fields

-- a digit at least, and digits alone
abbrev pub is_number : List ℕ → Bool
is_number text = is_some_list text && list_all is_ascii_digit text

-- a numeric OID: one number or more, joined by dots
pub record IsOid (text : List ℕ) : Type 0 where
  pub numbers : List (List ℕ)
  pub some : 0 < length numbers
  pub are_numbers : list_all is_number numbers ≡ true
  pub text_is : text ≡ join_with_byte full_stop numbers

-- a word, in any case, and what comes behind it
pub record Headed (word : List ℕ) (Behind : List Token → Type 0) (tokens : List Token) : Type 0 where
  pub text : List ℕ
  pub rest : List Token
  pub tokens_are : tokens ≡ Word text ∷ rest
  pub same : is_word word text ≡ true
  pub behind : Behind rest

abbrev pub IsNothing : List Token → Type 0
IsNothing tokens = tokens ≡ []

-- one text in quotes, which isn't kept
abbrev pub IsText : List Token → Type 0
IsText tokens = (text : List ℕ) × (tokens ≡ Quoted text ∷ [])

abbrev pub quoted : List ℕ → Token
quoted text = Quoted text

-- `'a'`, or `( 'a' 'b' )`: at least one
abbrev pub AreTexts : List (List ℕ) → List Token → Type 0
AreTexts texts tokens =
    ((text : List ℕ) × (texts ≡ text ∷ []) × (tokens ≡ Quoted text ∷ []))
    ⊎ ((0 < length texts) × (tokens ≡ Opening ∷ (map quoted texts ++ Closing ∷ [])))

-- names of the type or class (RFC 4512, 1.4)
abbrev pub AreNames : Sort → List (List ℕ) → List Token → Type 0
AreNames sort names tokens = AreTexts names tokens × (list_all (is_allowed sort) names ≡ true)

abbrev pub AreSomeTexts : List Token → Type 0
AreSomeTexts tokens = (texts : List (List ℕ)) × AreTexts texts tokens

-- `X-`, in either case, and more
abbrev pub is_extension_name : List ℕ → Bool
is_extension_name (x ∷ dash ∷ b ∷ bs) = is_word (codes "X") (x ∷ []) && dash == hyphen
is_extension_name name = false

-- texts stand behind it, which aren't kept
pub record IsExtension (name : List ℕ) (tokens : List Token) : Type 0 where
  pub rest : List Token
  pub tokens_are : tokens ≡ Word name ∷ rest
  pub name_is : is_extension_name name ≡ true
  pub texts : AreSomeTexts rest

-- RFC 4512, 1.4: oid
abbrev pub IsNameOrOid : List ℕ → Type 0
IsNameOrOid text = (is_name text ≡ true) ⊎ IsOid text

-- what is to be a name or an OID stands bare, as any word; in quotes, where it may stand so, it is one. Whether it names anything is
-- said elsewhere
abbrev pub IsName : Bool → List ℕ → Token → Type 0
IsName quotes name token = (token ≡ Word name) ⊎ ((quotes ≡ true) × IsNameOrOid name × (token ≡ Quoted name))

-- ---- fields

-- the word that begins a field
abbrev pub element_word : ElementField → List ℕ
element_word (fields.Names names) = codes "NAME"
element_word fields.Description = codes "DESC"
element_word fields.Obsolete = codes "OBSOLETE"
element_word (fields.Extension name) = name

abbrev pub IsElementField : Sort → ElementField → List Token → Type 0
IsElementField sort (fields.Names names) tokens = Headed (codes "NAME") (AreNames sort names) tokens
IsElementField sort fields.Description tokens = Headed (codes "DESC") IsText tokens
IsElementField sort fields.Obsolete tokens = Headed (codes "OBSOLETE") IsNothing tokens
IsElementField sort (fields.Extension name) tokens = IsExtension name tokens

-- one field behind the other
abbrev pub AreFields : {F : Type 0} → (F → List Token → Type 0) → List F → List Token → Type 0
AreFields IsField [] tokens = tokens ≡ []
AreFields IsField (field ∷ fields) tokens = (front : List Token) × (rest : List Token) × IsField field front × (tokens ≡ front ++ rest) × AreFields IsField fields rest

-- `(`, the OID, these fields and `)`
pub record IsDefinition {F : Type 0} (IsField : F → List Token → Type 0) (text oid : List ℕ) (fields : List F) : Type 0 where
  pub tokens : List Token
  pub text_is : AreTokens (Opening ∷ Word oid ∷ (tokens ++ Closing ∷ [])) text
  pub oid_is : IsOid oid
  pub fields_are : AreFields IsField fields tokens

-- texts with the same OID and the same fields, in orders that may stand for each other, are read alike
abbrev pub FieldsStandInAnyOrder : {F D : Type 0} → (F → List Token → Type 0) → (List F → List F → Type 0) → (List ℕ → D) → Type 0
FieldsStandInAnyOrder {F} IsField AreMoved read =
    (text other oid : List ℕ) (fields others : List F) → IsDefinition IsField text oid fields → IsDefinition IsField other oid others
    → AreMoved fields others → read text ≡ read other

-- no two fields have the same word, in any case
abbrev pub AreApart : {F : Type 0} → (F → List ℕ) → List F → Type 0
AreApart word_of fields = (word : List ℕ) → count_by (λ field. is_word word (word_of field)) fields ≤ 1

-- ---- what they say

abbrev pub first : {A : Type 0} → List A → Option A
first [] = None
first (x ∷ xs) = Some x

abbrev pub first_list : {A : Type 0} → List (List A) → List A
first_list [] = []
first_list (xs ∷ xss) = xs

-- what fields say of one thing, of which each says something or nothing
abbrev pub said : {F A : Type 0} → (F → Option A) → List F → List A
said in_field fields = filter_map in_field fields

abbrev pub names_in : ElementField → Option (List (List ℕ))
names_in (fields.Names names) = Some names
names_in fields.Description = None
names_in fields.Obsolete = None
names_in (fields.Extension name) = None

abbrev pub description_in : ElementField → Option ElementField
description_in (fields.Names names) = None
description_in fields.Description = Some fields.Description
description_in fields.Obsolete = None
description_in (fields.Extension name) = None

abbrev pub obsolete_in : ElementField → Option ElementField
obsolete_in (fields.Names names) = None
obsolete_in fields.Description = None
obsolete_in fields.Obsolete = Some fields.Obsolete
obsolete_in (fields.Extension name) = None

abbrev pub extension_in : ElementField → Option (List ℕ)
extension_in (fields.Names names) = None
extension_in fields.Description = None
extension_in fields.Obsolete = None
extension_in (fields.Extension name) = Some name

-- the names of extensions, in the order of their fields
abbrev pub extensions_in : List ElementField → List (List ℕ)
extensions_in fields = said extension_in fields

abbrev pub element_said : List ℕ → List ElementField → Element
element_said oid fields =
    record {
      oid = oid;
      names = first_list (said names_in fields);
      is_described = is_some_list (said description_in fields);
      is_obsolete = is_some_list (said obsolete_in fields);
      extensions = extensions_in fields;
    }
