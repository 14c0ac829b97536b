-- The report of a transaction that the program ended (this project's own).
use Rattle.std.specs.Prelude.{ℕ, List, ◌++◌, codes}
use Rattle.pam_base.specs.declared.code.Code.{Code}
use Rattle.pam_library.specs.data_cleanup.specs.Ledger.{PlainLedger}
use Rattle.report_step.specs.Cleaned.{cleanups_text}
use Rattle.report_lines.specs.Line.{code_words, words_text}

-- its cleanup records, those of the log after the first n, and H closed NAME NUMBER
abbrev pub closing_text : List (List ℕ) → ℕ → Code → PlainLedger → ℕ → List ℕ
closing_text names handle status ledger filed_from = cleanups_text handle names ledger filed_from
    ++ words_text handle (codes "closed") (code_words status)
