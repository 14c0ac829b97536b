-- If all objects that a module gets are modelled, each of them is (this project's own).
use Rattle.std.specs.Prelude.{Bool, true, false, ◌&&◌, IsTrue}
use Rattle.std.proofs.Common.{refl}

-- ---- laws, if a conversation, files and a clock are all modelled

pub conv_of : (conv vault clock : Bool) → IsTrue (conv && (vault && clock)) → IsTrue conv
conv_of true vault clock tells = refl
conv_of false vault clock tells = tells

pub vault_of : (conv vault clock : Bool) → IsTrue (conv && (vault && clock)) → IsTrue vault
vault_of true true clock tells = refl
vault_of true false clock tells = tells
vault_of false true clock tells = refl
vault_of false false clock tells = tells

pub clock_of : (conv vault clock : Bool) → IsTrue (conv && (vault && clock)) → IsTrue clock
clock_of true true clock tells = tells
clock_of true false true tells = refl
clock_of true false false tells = tells
clock_of false vault true tells = refl
clock_of false vault false tells = tells
