-- What clauses of private functions say beside Kinds.antt.
use Rattle.std.specs.Prelude.{[], unwrap_or}
use Rattle.lab_forms.specs.declared.kinds.Kind.{Kind}
use Rattle.lab_forms.specs.declared.kinds.Kind.TheVariants.{Number}
use Rattle.lab_store_tables.specs.Rows.{KindColumns}

-- a number, by what its columns say
abbrev pub number_kind : KindColumns → Kind
number_kind columns =
    Number (unwrap_or columns.unit []) (unwrap_or columns.decimals 0) columns.low columns.high
