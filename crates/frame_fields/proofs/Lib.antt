pub mod Then_lawful
pub mod Goes_on
pub mod Hand_lawful
