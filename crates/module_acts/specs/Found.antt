-- The plain value of the code's type for a user's account (this project's own).
use Rattle.module_acts.specs.Accounts.{Account, found, missing, unreadable}
use Rattle.module_acts.specs.declared.accounts.Account.{Account as LentAccount}
use Rattle.module_acts.specs.declared.accounts.Account.TheVariants as borrowed

abbrev pub plain_account : LentAccount → Account
plain_account (borrowed.Found entry) = found entry
plain_account borrowed.Missing = missing
plain_account borrowed.Unreadable = unreadable
