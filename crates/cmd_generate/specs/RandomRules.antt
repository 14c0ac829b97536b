-- The rules that generated files have (this project's own; a rule is one of pam.conf(5)).
use Rattle.std.specs.Prelude.{◌≡◌, ℕ, ◌+◌, ◌-◌, ◌*◌, ◌%◌, min, true, ◌&&◌, nat_lt, if◌then◌else◌, false, List, [], ◌∷◌, ◌++◌, codes, length, get_or, map, Some, Ok}
use Rattle.std.specs.List.{filter, range_with_len}
use Rattle.pam_base.specs.Code.{all_codes}
use Rattle.pam_base.specs.declared.code.Code.{Code}
use Rattle.pam_base.specs.declared.code.Code.TheVariants as returns
use Rattle.random_config.specs.Generator.{random_number}
use Rattle.random_config.specs.Line.{answer_words, picked}
use Rattle.random_config.specs.Files.{count_of, is_odd, name_of}
use Rattle.service_load.specs.conf_lex.specs.declared.token.RawRule.{RawRule}
use Rattle.service_load.specs.conf_lex.specs.Answer.{answer_to}
use Rattle.service_load.specs.control_words.specs.declared.control.Action.{Action}
use Rattle.service_load.specs.control_words.specs.declared.control.Action.TheVariants as actions
use Rattle.service_load.specs.control_words.specs.declared.nodes.Rule.{Rule}
use Rattle.service_load.specs.declared.entry.RuleContent.{RuleContent}
use Rattle.service_load.specs.declared.entry.RuleContent.TheVariants.{Line, Substack}
use Rattle.service_load.specs.declared.entry.ConfigEntry.{ConfigEntry}
use Rattle.service_load.specs.declared.rule_type.RuleType.TheVariants.{Auth}
use Rattle.service_load.specs.Files.{all_fine, entries_of}
use Rattle.cmd_generate.specs.Placing.{path_of_service}

-- ---- a line

-- the actions that the words of a line are
abbrev pub success_actions : List Action
success_actions = actions.Ok ∷ actions.Ok ∷ actions.Done ∷ actions.Ignore ∷ actions.Reset
    ∷ actions.Jump 1 ∷ actions.Jump 2 ∷ actions.Jump 3 ∷ []

abbrev pub default_actions : List Action
default_actions = actions.Ignore ∷ actions.Bad ∷ actions.Die ∷ actions.Reset ∷ []

-- the action that a random number picks
abbrev pub action_picked : List Action → ℕ → Action
action_picked table n = get_or table (n % length table) actions.Bad

-- the action for each code
abbrev pub action_at : Action → Action → Code → Action
action_at success default returns.Success = success
action_at success default returns.NewAuthtokReqd = actions.Ok
action_at success default code = default

abbrev pub random_rule : Action → Action → List ℕ → Rule
random_rule success default answer = record {
  silent = false;
  control = map (action_at success default) all_codes;
  path = codes "pam_debug.so";
  args = (codes "auth=" ++ answer) ∷ [];
}

-- what the line after n others says
abbrev pub random_content : ℕ → ℕ → RuleContent
random_content seed n = Line (random_rule (action_picked success_actions (random_number seed (3 * n)))
    (action_picked default_actions (random_number seed (3 * n + 1)))
    (picked answer_words (random_number seed (3 * n + 2))))

-- what a line says whose substack is the file with this number
abbrev pub substack_content : ℕ → RuleContent
substack_content k = Substack (path_of_service (name_of k))

-- ---- a file

-- what the lines of a file say
abbrev pub contents_of : ℕ → ℕ → ℕ → List RuleContent
contents_of seed lines k =
    map (random_content seed) (range_with_len (32 * (k - 1)) (min (32 * k) lines - 32 * (k - 1)))
    ++ (if is_odd k && nat_lt k (count_of lines) then substack_content (k + 1) ∷ [] else [])

-- what the lines of the service say
abbrev pub service_contents : ℕ → List RuleContent
service_contents count = map substack_content (filter is_odd (range_with_len 1 count))

-- these lines as rules of the type auth, one in each line of a file from this one on
abbrev pub entries_from : ℕ → List RuleContent → List ConfigEntry
entries_from line [] = []
entries_from line (c ∷ cs) =
    record { line = line; rule_type = Some Auth; content = c } ∷ entries_from (line + 1) cs

-- The text is that of a file without a fault, whose rules are these.
pub record HoldsRules (text : List ℕ) (contents : List RuleContent) : Type 0 where
  pub rules : List RawRule
  pub text_is : answer_to text ≡ Ok rules
  pub fine : all_fine true rules ≡ true
  pub entries : entries_of true rules ≡ entries_from 1 contents
