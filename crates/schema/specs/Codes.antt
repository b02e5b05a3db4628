-- Result codes of LDAP (RFC 4511, 4.1.9 and appendix A): their numbers and names.
use Rattle.std.specs.Prelude.{ℕ, List, ◌++◌, codes}
use Rattle.std.specs.Fmt.{decimal}
use Rattle.schema.specs.declared.code.Code.{Code}
use Rattle.schema.specs.declared.code.Code.TheVariants.{ProtocolError, SizeLimitExceeded, AdminLimitExceeded, UnavailableCriticalExtension, NoSuchAttribute, UndefinedAttributeType, InappropriateMatching, ConstraintViolation, AttributeOrValueExists, InvalidAttributeSyntax, NoSuchObject, InvalidDnSyntax, UnwillingToPerform, NamingViolation, ObjectClassViolation, NotAllowedOnNonLeaf, NotAllowedOnRdn, EntryAlreadyExists}

abbrev pub code_number : Code → ℕ
code_number ProtocolError = 2
code_number SizeLimitExceeded = 4
code_number AdminLimitExceeded = 11
code_number UnavailableCriticalExtension = 12
code_number NoSuchAttribute = 16
code_number UndefinedAttributeType = 17
code_number InappropriateMatching = 18
code_number ConstraintViolation = 19
code_number AttributeOrValueExists = 20
code_number InvalidAttributeSyntax = 21
code_number NoSuchObject = 32
code_number InvalidDnSyntax = 34
code_number UnwillingToPerform = 53
code_number NamingViolation = 64
code_number ObjectClassViolation = 65
code_number NotAllowedOnNonLeaf = 66
code_number NotAllowedOnRdn = 67
code_number EntryAlreadyExists = 68

abbrev pub code_name : Code → List ℕ
code_name ProtocolError = codes "protocolError"
code_name SizeLimitExceeded = codes "sizeLimitExceeded"
code_name AdminLimitExceeded = codes "adminLimitExceeded"
code_name UnavailableCriticalExtension = codes "unavailableCriticalExtension"
code_name NoSuchAttribute = codes "noSuchAttribute"
code_name UndefinedAttributeType = codes "undefinedAttributeType"
code_name InappropriateMatching = codes "inappropriateMatching"
code_name ConstraintViolation = codes "constraintViolation"
code_name AttributeOrValueExists = codes "attributeOrValueExists"
code_name InvalidAttributeSyntax = codes "invalidAttributeSyntax"
code_name NoSuchObject = codes "noSuchObject"
code_name InvalidDnSyntax = codes "invalidDNSyntax"
code_name UnwillingToPerform = codes "unwillingToPerform"
code_name NamingViolation = codes "namingViolation"
code_name ObjectClassViolation = codes "objectClassViolation"
code_name NotAllowedOnNonLeaf = codes "notAllowedOnNonLeaf"
code_name NotAllowedOnRdn = codes "notAllowedOnRDN"
code_name EntryAlreadyExists = codes "entryAlreadyExists"

-- as it is reported: its number and its name
abbrev pub code_report : Code → List ℕ
code_report c = decimal (code_number c) ++ (codes " " ++ code_name c)
