-- The kinds of records and their codes.
-- Assumes nothing.
use Rattle.std.specs.Prelude.{ℕ, ◌==◌, if◌then◌else◌, ◌≡◌, Bool, true, false, Result, Ok, Err}
use Rattle.record.specs.declared.kind.Kind.{Kind}
use Rattle.record.specs.declared.kind.Kind.TheVariants.{Primitive, SubByte, Semantic, Named, Qualified, Generic, OverOne, OverTwo, InlineBits, Literal, Reference, Operation, Logic, Comparison, Range, Operand, Message, Union, Newtype, Alias, Constant, Ambiguous, TypeParameter, Field, Tombstone, Variant, Annotation, Argument, TombstoneArgument, LoweredAlias, LoweredConstant, LoweredMessage, LoweredUnion, LoweredVariant, LoweredField, Encoding, LoweredTombstone, LoweredNewtype, Diagnostic}
use Rattle.record.specs.declared.kind.UnknownKind.{UnknownKind}

-- the byte that stands for a kind
abbrev pub code_of : Kind → ℕ
code_of Primitive = 1
code_of SubByte = 2
code_of Semantic = 3
code_of Named = 4
code_of Qualified = 5
code_of Generic = 6
code_of OverOne = 7
code_of OverTwo = 8
code_of InlineBits = 9
code_of Literal = 10
code_of Reference = 11
code_of Operation = 12
code_of Logic = 13
code_of Comparison = 14
code_of Range = 15
code_of Operand = 16
code_of Message = 20
code_of Union = 21
code_of Newtype = 22
code_of Alias = 23
code_of Constant = 24
code_of Ambiguous = 25
code_of TypeParameter = 30
code_of Field = 31
code_of Tombstone = 32
code_of Variant = 33
code_of Annotation = 34
code_of Argument = 35
code_of TombstoneArgument = 36
code_of LoweredAlias = 40
code_of LoweredConstant = 41
code_of LoweredMessage = 42
code_of LoweredUnion = 43
code_of LoweredVariant = 44
code_of LoweredField = 45
code_of Encoding = 46
code_of LoweredTombstone = 47
code_of LoweredNewtype = 48
code_of Diagnostic = 50

-- the kind that a byte stands for
unfoldable pub kind_from : ℕ → Result Kind UnknownKind
kind_from code =
    if code == 1 then Ok Primitive else
    (if code == 2 then Ok SubByte else
    (if code == 3 then Ok Semantic else
    (if code == 4 then Ok Named else
    (if code == 5 then Ok Qualified else
    (if code == 6 then Ok Generic else
    (if code == 7 then Ok OverOne else
    (if code == 8 then Ok OverTwo else
    (if code == 9 then Ok InlineBits else
    (if code == 10 then Ok Literal else
    (if code == 11 then Ok Reference else
    (if code == 12 then Ok Operation else
    (if code == 13 then Ok Logic else
    (if code == 14 then Ok Comparison else
    (if code == 15 then Ok Range else
    (if code == 16 then Ok Operand else
    (if code == 20 then Ok Message else
    (if code == 21 then Ok Union else
    (if code == 22 then Ok Newtype else
    (if code == 23 then Ok Alias else
    (if code == 24 then Ok Constant else
    (if code == 25 then Ok Ambiguous else
    (if code == 30 then Ok TypeParameter else
    (if code == 31 then Ok Field else
    (if code == 32 then Ok Tombstone else
    (if code == 33 then Ok Variant else
    (if code == 34 then Ok Annotation else
    (if code == 35 then Ok Argument else
    (if code == 36 then Ok TombstoneArgument else
    (if code == 40 then Ok LoweredAlias else
    (if code == 41 then Ok LoweredConstant else
    (if code == 42 then Ok LoweredMessage else
    (if code == 43 then Ok LoweredUnion else
    (if code == 44 then Ok LoweredVariant else
    (if code == 45 then Ok LoweredField else
    (if code == 46 then Ok Encoding else
    (if code == 47 then Ok LoweredTombstone else
    (if code == 48 then Ok LoweredNewtype else
    (if code == 50 then Ok Diagnostic else
    Err (record { 0 = code })))))))))))))))))))))))))))))))))))))))

-- what reading a byte as a kind gives
abbrev pub Decodes : ℕ → Result Kind UnknownKind → Type 0
Decodes code r = r ≡ kind_from code

-- declarations: codes 20 to 25
abbrev pub is_declaration_kind : Kind → Bool
is_declaration_kind Message = true
is_declaration_kind Union = true
is_declaration_kind Newtype = true
is_declaration_kind Alias = true
is_declaration_kind Constant = true
is_declaration_kind Ambiguous = true
is_declaration_kind kind = false

-- what stands under a declaration: codes 30 to 36
abbrev pub is_item_kind : Kind → Bool
is_item_kind TypeParameter = true
is_item_kind Field = true
is_item_kind Tombstone = true
is_item_kind Variant = true
is_item_kind Annotation = true
is_item_kind Argument = true
is_item_kind TombstoneArgument = true
is_item_kind kind = false
